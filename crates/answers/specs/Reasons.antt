-- The refusals' numbers (01, "Table of refusals"; FORMAT 3, 4, 5, 7, 11, 12).
use Rattle.std.specs.Prelude.{ℕ}
use Rattle.answers.specs.declared.Reason.{Reason}
use Rattle.answers.specs.declared.Reason.TheVariants as is
use Rattle.answers.specs.declared.Refusal.{Refusal}

abbrev pub number_of : Reason → ℕ
number_of is.Directory = 1
number_of is.Part = 2
number_of is.Role = 3
number_of is.Entry = 4
number_of is.Simple = 5
number_of is.Twin = 6
number_of is.MissingEvery = 7
number_of is.Question = 8
number_of is.Head = 9
number_of is.Form = 10
number_of is.Label = 11
number_of is.Both = 12
number_of is.Edge = 13
number_of is.Every = 14
number_of is.Count = 15
number_of is.Cite = 16
number_of is.Step = 17
number_of is.Cell = 18
number_of is.Tree = 19
number_of is.End = 20
number_of is.Big = 21
number_of is.Short = 22
number_of is.LineForm = 23
number_of is.Claim = 24
number_of is.Full = 25
number_of is.Disjoint = 26

-- the refusal of record p, for a reason
abbrev pub refused : Reason → ℕ → Refusal
refused r p = record { reason = r; place = p }
