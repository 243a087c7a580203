-- A plain question is not refused exactly if its description is accepted and its graph is kept.
use Rattle.std.specs.Prelude.{ℕ, ◌≡◌, ◌↔◌, List}
use Rattle.std.proofs.Math.Option.{none}
use Rattle.logic.specs.Refusals.{refuse↔}
use Rattle.description.specs.Descriptions.{wanted}
use Rattle.intake.specs.Intake.{described, AcceptedBytes, accepted_bytes↔}
use Rattle.graph_check.specs.GraphEvidence.{graph_refused, GraphKept, kept↔}

-- none of 1 to 15 and 26 refuses exactly if the description is accepted, too
pub not_refused↔ : (d s : List ℕ) → (graph_refused d s ≡ none) ↔ (AcceptedBytes d × GraphKept (described d) (wanted (described d)) s)
unfolding graph_refused
not_refused↔ d s = simp (refuse↔, accepted_bytes↔, kept↔) (λ t. t, λ t. t)
