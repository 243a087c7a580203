-- What is told of an answer on a claim tells the answer: no two have the same word, number and record.
use Rattle.std.specs.Prelude.{ℕ, ◌≡◌, refl, ◌↔◌, cond, eqb, Result, Ok, Err}
use Rattle.std.proofs.Common.{sym, ◌∙◌, ap}
use Rattle.answers.specs.declared.Reason.{Reason}
use Rattle.answers.specs.declared.Reason.TheVariants as is
use Rattle.answers.specs.declared.Refusal as Refusals
use Rattle.answers.specs.declared.Judgement as Judgements
use Rattle.answers.specs.Reasons.{number_of, refused}
use Rattle.answers.specs.Answers.{Answer, REFUSED, INHABITED, EMPTY, WRITTEN, HOLDS, FAILS, HOLDS_OF_NOTHING, DONE, of_judgement}

-- the reason with a number
abbrev reason_of : ℕ → Reason
reason_of n =
    cond (eqb n 1) is.Directory (
    cond (eqb n 2) is.Part (
    cond (eqb n 3) is.Role (
    cond (eqb n 4) is.Entry (
    cond (eqb n 5) is.Simple (
    cond (eqb n 6) is.Twin (
    cond (eqb n 7) is.MissingEvery (
    cond (eqb n 8) is.Question (
    cond (eqb n 9) is.Head (
    cond (eqb n 10) is.Form (
    cond (eqb n 11) is.Label (
    cond (eqb n 12) is.Both (
    cond (eqb n 13) is.Edge (
    cond (eqb n 14) is.Every (
    cond (eqb n 15) is.Count (
    cond (eqb n 16) is.Cite (
    cond (eqb n 17) is.Step (
    cond (eqb n 18) is.Cell (
    cond (eqb n 19) is.Tree (
    cond (eqb n 20) is.End (
    cond (eqb n 21) is.Big (
    cond (eqb n 22) is.Short (
    cond (eqb n 23) is.LineForm (
    cond (eqb n 24) is.Claim (
    cond (eqb n 25) is.Full (
    is.Disjoint)))))))))))))))))))))))))

reason_back : (r : Reason) → reason_of (number_of r) ≡ r
reason_back is.Directory = refl
reason_back is.Part = refl
reason_back is.Role = refl
reason_back is.Entry = refl
reason_back is.Simple = refl
reason_back is.Twin = refl
reason_back is.MissingEvery = refl
reason_back is.Question = refl
reason_back is.Head = refl
reason_back is.Form = refl
reason_back is.Label = refl
reason_back is.Both = refl
reason_back is.Edge = refl
reason_back is.Every = refl
reason_back is.Count = refl
reason_back is.Cite = refl
reason_back is.Step = refl
reason_back is.Cell = refl
reason_back is.Tree = refl
reason_back is.End = refl
reason_back is.Big = refl
reason_back is.Short = refl
reason_back is.LineForm = refl
reason_back is.Claim = refl
reason_back is.Full = refl
reason_back is.Disjoint = refl

-- the case of an answer on a claim, from what is told of it
refused_as : Answer → Result Judgements.Judgement Refusals.Refusal
refused_as a = Err (refused (reason_of a.number) a.place)

abbrev judgement_of : Answer → Result Judgements.Judgement Refusals.Refusal
judgement_of a = elim a.word [
  | REFUSED ↦ refused_as a
  | INHABITED ↦ refused_as a
  | EMPTY ↦ refused_as a
  | WRITTEN ↦ refused_as a
  | HOLDS ↦ Ok Judgements.TheVariants.Holds
  | FAILS ↦ Ok Judgements.TheVariants.Fails
  | HOLDS_OF_NOTHING ↦ Ok Judgements.TheVariants.HoldsOfNothing
  | DONE ↦ refused_as a
]

judgement_back : (v : Result Judgements.Judgement Refusals.Refusal) → judgement_of (of_judgement v) ≡ v
unfolding refused_as
judgement_back (Ok Judgements.TheVariants.Holds) = refl
judgement_back (Ok Judgements.TheVariants.Fails) = refl
judgement_back (Ok Judgements.TheVariants.HoldsOfNothing) = refl
judgement_back (Err r) = ap (λ x. Err (refused x r.place)) (reason_back r.reason)

pub judgement↔ : (v w : Result Judgements.Judgement Refusals.Refusal) → (of_judgement v ≡ of_judgement w) ↔ (v ≡ w)
judgement↔ v w = (λ e. sym (judgement_back v) ∙ ap judgement_of e ∙ judgement_back w, ap of_judgement)
