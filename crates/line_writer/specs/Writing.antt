-- The line writer (01, "The written line"; FORMAT 7, 8): what it refuses, what it answers, and all bytes of the buffer afterwards.
use Rattle.std.specs.Prelude.{ℕ, ◌≤◌, ◌≡◌, refl, ◌↔◌, List, leb, length, Result, Ok}
use Rattle.std.proofs.Math.Option.{Option, none}
use Rattle.std.proofs.Common.{arith}
use Rattle.logic.specs.Tests.{reading}
use Rattle.logic.specs.Refusals.{Refusal, unless, unless↔, refuse, refuse↔, first_of, first↔}
use Rattle.interpretation.specs.Meaning.{Interpretation}
use Rattle.graph.specs.Line.{line}
use Rattle.lines.specs.Lines.{name_size, line_length, most_elements, line_bytes}
use Rattle.description.specs.Descriptions.{wanted}
use Rattle.intake.specs.Intake.{described, AcceptedBytes}
use Rattle.evidence.specs.Evidence.{layout_of, graph_in}
use Rattle.graph_check.specs.GraphEvidence.{graph_refused, GraphKept}
use Rattle.graph_check.proofs.GraphEvidence.{not_refused↔}
use Rattle.answers.specs.declared.Refusal as Refusals
use Rattle.answers.specs.Answers as Case
use Rattle.answers.specs.Answers.{of_written, length_of, case_when, Answer, answer, WRITTEN, told↔, unless_refused, buffered}

-- the line of the graph that the evidence is
abbrev pub line_of : List ℕ → List ℕ → Interpretation
line_of d s = line (described d) (graph_in (layout_of (described d)) s)

-- and its length
abbrev pub line_size : List ℕ → List ℕ → ℕ
line_size d s = line_length (name_size (described d)) (line_of d s).size

-- 21: more than 64 elements; 22: a buffer of n bytes is shorter than the line. K, and so the size, is known before both
abbrev pub room_test : ℕ → ℕ → ℕ → Option ℕ
room_test size long n = unless (leb size most_elements) 21 (unless (leb long n) 22 none)

-- 1 to 8, 26 and 9 to 15, as for the graph's answer, then 21, then 22
unfoldable pub write_refused : List ℕ → List ℕ → ℕ → Option Refusal
write_refused d s n = first_of (graph_refused d s) (refuse 0 (room_test (line_of d s).size (line_size d s) n) none)

abbrev pub write_answer : List ℕ → List ℕ → ℕ → Answer
write_answer d s n = answer WRITTEN (write_refused d s n)

-- the length that is answered: of the line, or 0
abbrev pub write_length : List ℕ → List ℕ → ℕ → ℕ
write_length d s n = unless_refused 0 (line_size d s) (write_refused d s n)

-- the buffer afterwards
abbrev pub buffer_after : List ℕ → List ℕ → List ℕ → List ℕ
buffer_after d s old = buffered (line_bytes (described d) (line_of d s)) old (write_refused d s (length old))

-- ---- exactly when
pub written↔ : (d s : List ℕ) (n : ℕ) → (write_answer d s n ≡ answer WRITTEN none)
    ↔ ((AcceptedBytes d × GraphKept (described d) (wanted (described d)) s) × (((line_of d s).size ≤ most_elements) × (line_size d s ≤ n)))
unfolding write_refused
written↔ d s n = let w = told↔ WRITTEN WRITTEN (write_refused d s n) (λ e. let z : ◌≡◌ {A = ℕ} 0 1 = cc in omega arith) in let k = room↔ in
    (λ e. k.0 (w.0 e).1, λ h. w.1 (refl, k.1 h))
  where
    room↔ : (write_refused d s n ≡ none) ↔ ((AcceptedBytes d × GraphKept (described d) (wanted (described d)) s) × (((line_of d s).size ≤ most_elements) × (line_size d s ≤ n)))
    room↔ = simp (first↔, not_refused↔, refuse↔, unless↔, reading) (λ t. (t.0, (t.1.0.0, t.1.0.1.0)), λ t. (t.0, ((t.1.0, (t.1.1, refl)), refl)))

-- so for what write_interpretation answers
pub written_when : (d s : List ℕ) (n : ℕ) (w : Result ℕ Refusals.Refusal) → of_written w ≡ write_answer d s n → (w ≡ Ok (length_of w))
    ↔ ((AcceptedBytes d × GraphKept (described d) (wanted (described d)) s) × (((line_of d s).size ≤ most_elements) × (line_size d s ≤ n)))
written_when d s n w e = case_when (of_written w) (write_answer d s n) (answer WRITTEN none) e (Case.written↔ w) (written↔ d s n)
