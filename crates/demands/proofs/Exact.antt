-- Demand 2 on bytes: when the code answers INHABITED and EMPTY, that after INHABITED the line is written, and that never both are told.
use Rattle.std.specs.Prelude.{ℕ, ◌*◌, ◌≤◌, ◌≡◌, ◌↔◌, List, length}
use Rattle.std.proofs.Math.Option.{none}
use Rattle.description.specs.Descriptions.{wanted}
use Rattle.graph.specs.Line.{copies, line}
use Rattle.intake.specs.Intake.{described, AcceptedBytes}
use Rattle.graph_check.specs.GraphEvidence.{GraphKept}
use Rattle.lines.specs.Lines.{name_size, line_length, most_elements}
use Rattle.line_writer.specs.Writing.{write_answer, written↔}
use Rattle.lists.specs.ListEvidence.{ListKept}
use Rattle.answers.specs.declared.Verdict.{Verdict}
use Rattle.answers.specs.declared.Verdict.TheVariants.{Inhabited, Empty}
use Rattle.answers.specs.Answers as Case
use Rattle.answers.specs.Answers.{INHABITED, EMPTY, WRITTEN, answer, of_verdict, case_when}
use Rattle.verdict.specs.Verdict.{verdict}
use Rattle.demands.specs.Exact.{graph_of, inhabited↔, empty↔}
use Rattle.demands.proofs.True.{inhabited_true, empty_true}

-- so for the case that the code answers
module _ (d s : List ℕ) (v : Verdict) (e : of_verdict v ≡ verdict d s) where
  pub inhabited_when : (v ≡ Inhabited) ↔ (AcceptedBytes d × GraphKept (described d) (wanted (described d)) s)
  inhabited_when = case_when (of_verdict v) (verdict d s) (answer INHABITED none) e (Case.inhabited↔ v) (inhabited↔ d s)

  pub empty_when : (v ≡ Empty) ↔ (AcceptedBytes d × ListKept (described d) (wanted (described d)) s)
  empty_when = case_when (of_verdict v) (verdict d s) (answer EMPTY none) e (Case.empty↔ v) (empty↔ d s)

-- ---- and written: for evidence that is INHABITED, and no other, a line of n·K elements is written if they are at most 64 and a buffer of b bytes has room for it
module _ (d s : List ℕ) (b : ℕ) where
  abbrev size : ℕ
  size = length (graph_of d s) * copies (graph_of d s)

  pub inhabited_written : verdict d s ≡ answer INHABITED none → size ≤ most_elements → line_length (name_size (described d)) size ≤ b → write_answer d s b ≡ answer WRITTEN none
  inhabited_written e few room = (written↔ d s b).1 ((inhabited↔ d s).0 e, (few, room))

  pub written_inhabited : write_answer d s b ≡ answer WRITTEN none → verdict d s ≡ answer INHABITED none
  written_inhabited e = (inhabited↔ d s).1 ((written↔ d s b).0 e).0

-- so no description has evidence of both kinds
pub never_both : (d s t : List ℕ) → verdict d s ≡ answer INHABITED none → verdict d t ≡ answer EMPTY none → ⊥
never_both d s t p q = let m = inhabited_true d s p in empty_true d t q (line (described d) (graph_of d s)) m.0 m.1
