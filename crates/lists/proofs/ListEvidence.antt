-- What it is to pass the tests on the bytes of a list.
use Rattle.std.specs.Prelude.{ℕ, ◌≡◌, refl, ◌↔◌, List}
use Rattle.std.proofs.Math.Option.{none}
use Rattle.logic.specs.Tests.{reading}
use Rattle.logic.specs.Refusals.{unless, unless↔, refuse, refuse↔, records↔}
use Rattle.description.specs.Literals.{Literal}
use Rattle.description.specs.Descriptions.{Description}
use Rattle.description.specs.Acceptance.{Accepted}
use Rattle.evidence.specs.Evidence.{head↔, layout_of}
use Rattle.refutation.specs.RecordTests.{stored_refutation}
use Rattle.refutation.proofs.RecordTests.{refutation↔}
use Rattle.lists.specs.Lists.{refutation_in}
use Rattle.lists.proofs.Lists.{refutation_size, record_form↔}
use Rattle.lists.specs.ListEvidence.{list_tests, ListKept}

-- none of 9, 10 and 16 to 20 refuses exactly then
pub list_kept↔ : (D : Description) → Accepted D → (W : List Literal) (s : List ℕ) → (list_tests D W s ≡ none) ↔ ListKept D W s
unfolding list_tests
list_kept↔ D A W s = let rules = refutation↔ stored_refutation D A W (refutation_in (layout_of D) s) in simp (refuse↔, unless↔, records↔, reading, head↔, record_form↔) (
  λ t. let g = rules.0 (rw (refutation_size (layout_of D) s) t.0.0.0.1.0, t.1.1) in
      record { head = t.0.0.0; is_a_list = t.0.0.1; formed = λ x h. (t.1.0 x h).0; fits = g.1; closes = g.0 },
  λ k. (((k.head, k.is_a_list), refl), (λ x h. (k.formed x h, refl), (rules.1 (k.closes, k.fits)).1)),
)
