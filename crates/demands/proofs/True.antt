-- Demand 2 on bytes: what is true when INHABITED and EMPTY are told.
use Rattle.std.specs.Prelude.{ℕ, ◌≡◌, List}
use Rattle.std.proofs.Math.Option.{none}
use Rattle.description.specs.Descriptions.{wanted}
use Rattle.interpretation.specs.Meaning.{Interpretation}
use Rattle.interpretation.specs.Models.{Model, Satisfies}
use Rattle.graph.specs.Line.{line}
use Rattle.graph.proofs.Sound.{graph_sound}
use Rattle.refutation.proofs.Sound.{refutation_sound}
use Rattle.intake.specs.Intake.{described}
use Rattle.answers.specs.Answers.{INHABITED, EMPTY, answer}
use Rattle.verdict.specs.Verdict.{verdict}
use Rattle.demands.specs.Exact.{graph_of, refutation_of, inhabited↔, empty↔}

-- after INHABITED the line of the graph is a model of the description, and has the root
pub inhabited_true : (d s : List ℕ) → verdict d s ≡ answer INHABITED none
    → let D = described d in Model D (line D (graph_of d s)) × Satisfies D (wanted D) (line D (graph_of d s))
inhabited_true d s e = let k = (inhabited↔ d s).0 e in graph_sound (described d) k.0.accepted (wanted (described d)) (graph_of d s) k.1.keeps

-- after EMPTY no finite model of any size has it
pub empty_true : (d s : List ℕ) → verdict d s ≡ answer EMPTY none
    → (I : Interpretation) → Model (described d) I → Satisfies (described d) (wanted (described d)) I → ⊥
empty_true d s e = let k = (empty↔ d s).0 e in refutation_sound (described d) k.0.accepted (wanted (described d)) (refutation_of d s) k.1.closes
