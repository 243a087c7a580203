-- Laws of the walk over cells.
use Rattle.std.specs.Prelude.{ℕ, ◌^◌, ◌≡◌, refl, Bool, true}
use Rattle.std.proofs.Common.{◌∙◌, ap, arith}
use Rattle.logic.specs.Sums.{sum_below}
use Rattle.logic.specs.Sets.{has}
use Rattle.cell_walk.specs.Walks.{changes_to, changes_up_to, Tally}

-- all cells of six rows: 120 come in or go out in 63 cells
pub after_63 : changes_up_to 63 ≡ 120
unfolding changes_up_to changes_to has sum_below
after_63 = refl

pub six_rows : (k : ℕ) (p : ℕ → Bool) (fine : Bool) (cells changes : ℕ) → Tally k p fine cells changes → k ≡ 6 → fine ≡ true
    → (cells ≡ 63) × (changes ≡ 120)
six_rows k p fine cells changes T e f = let z : cells ≡ 63 = omega (arith, T.whole f ∙ ap (λ k. 2 ^ k) e) in
    (z, T.count ∙ ap changes_up_to z ∙ after_63)
