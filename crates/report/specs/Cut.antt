-- What the program answers to an input, and how many of its bytes it reads: what it answers to these is the answer to the whole (proofs/Cut.antt).
use Rattle.std.specs.Prelude.{ℕ, suc, ◌+◌, List}
use Rattle.answers.specs.Answers.{Answer}
use Rattle.verdict.specs.Verdict.{verdict}
use Rattle.demands.specs.Cut.{farthest}
use Rattle.report.specs.Input.{description_in, evidence_in}

-- what the program answers to an input
abbrev pub answer_to : List ℕ → Answer
answer_to i = verdict (description_in i) (evidence_in i)

-- the length, the longest description, and one byte more of evidence than pairs can fill
abbrev pub longest : ℕ
longest = 2 + 65535 + suc farthest
