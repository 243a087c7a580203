-- Of lifted refutations, which have no limits, the tests say what the rules say.
use Rattle.std.specs.Prelude.{zero, suc, ◌≤◌, ◌≡◌, ◌↔◌, List, length}
use Rattle.std.proofs.Math.Path.{refl}
use Rattle.std.proofs.Math.Bool.{true}
use Rattle.std.proofs.Math.Option.{Option, none, some}
use Rattle.counting.specs.Trees.{ValuesFit}
use Rattle.counting.proofs.TreeLaws.{fits_all}
use Rattle.description.specs.Literals.{Literal}
use Rattle.description.specs.Descriptions.{Description}
use Rattle.description.specs.Acceptance.{Accepted}
use Rattle.refutation.specs.Records.{Counting, as_counting, WhenCounting, Refutation, record_at, FormFits, Closes}
use Rattle.refutation.specs.RecordTests.{any_refutation, refutation_refusal}
use Rattle.refutation.proofs.RecordTests.{refutation↔}

-- lifted: no limits
pub lifted_refutation↔ : (D : Description) → Accepted D → (W : List Literal) (C : Refutation)
    → ((1 ≤ length C) × (refutation_refusal any_refutation D W C ≡ none)) ↔ Closes D W C
lifted_refutation↔ D A W C = (
  λ e. ((refutation↔ any_refutation D A W C).0 e).0,
  λ k. (refutation↔ any_refutation D A W C).1 (k, record { forms_fit = λ i l. any_form (as_counting (record_at C i).step); values_fit = λ i l. any_value (as_counting (record_at C i).step) }),
)
  where
    any_form : (o : Option Counting) → WhenCounting (FormFits any_refutation) o
    any_form none = tt
    any_form (some K) = (refl, refl)

    any_value : (o : Option Counting) → WhenCounting (λ K. ValuesFit (λ v. true) K.tree) o
    any_value none = tt
    any_value (some K) = fits_all K.tree
