-- Records of the two widths are told apart by their form.
use Rattle.std.specs.Prelude.{ℕ, ◌+◌, ◌*◌, Bool}
use Rattle.std.proofs.Math.Path.{◌≡◌}
use Rattle.std.proofs.Math.Bool.{true, false}
use native.Mathlib.Omega.{arith}
use Rattle.logic.specs.Tests.{so_false}
use Rattle.labels.specs.Labels.{label_bytes}
use Rattle.evidence.specs.Evidence.{node_form_test, node_form↔}

-- a record of one width, with whole edges behind its label, is none of the other width
pub other_width : (b : Bool) (m : ℕ)
    → (node_form_test (record { wide = true; marks = b }) (8 + 5 * m) ≡ false) × (node_form_test (record { wide = false; marks = b }) (16 + 5 * m) ≡ false)
unfolding label_bytes
other_width b m = (so_false _ (λ h. let k = (node_form↔ _ _).0 h in omega arith), so_false _ (λ h. let k = (node_form↔ _ _).0 h in omega arith))
