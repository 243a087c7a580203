-- What the opposite of a literal, and an "every" that fails, say of an element and its fillers.
use Rattle.std.specs.Prelude.{ℕ, zero, suc, ◌≤◌, ◌<◌, ◌≡◌, ◌↔◌, Bool, ◌&&◌}
use Rattle.std.proofs.Common.{inl, inr}
use Rattle.logic.specs.Tests.{So, decide, so_and, not↔}
use Rattle.logic.specs.Bounded.{any_below, any_intro, any_elim}
use Rattle.logic.specs.Sums.{count_below, count_some}
use Rattle.description.specs.Literals.{Literal, opposite}
use Rattle.description.specs.Descriptions.{every, Description}
use Rattle.description.specs.Acceptance.{Accepted}
use Rattle.interpretation.specs.Meaning.{Interpretation, truth, holds, holds_opposite}
use Rattle.interpretation.specs.Models.{every_true}

pub opposite_true : (D : Description) (I : Interpretation) (l : Literal) (x : ℕ) → So (holds D I (opposite l) x) ↔ (So (holds D I l x) → ⊥)
opposite_true D I l x = rw (holds_opposite D I l x) (not↔ (holds D I l x))

-- ---- entries by kind
module _ (D : Description) (A : Accepted D) (I : Interpretation) where
  -- where "every" fails, a filler has the opposite
  pub every_false : (e x r : ℕ) (l : Literal) → e < D.entries → D.entry e ≡ every r l → (So (truth D I e x) → ⊥)
      → 1 ≤ count_below I.size (λ y. I.role r x y && holds D I (opposite l) y)
  every_false e x r l h q t = elim (decide (any_below I.size fails)) [
    | inl a ↦ let w = any_elim I.size fails a in count_some I.size fails w.0 w.1 w.2
    | inr a ↦ absurd (t ((every_true D A I e x r l h q).1 (λ y hy p. elim (decide (holds D I l y)) [
      | inl u ↦ u
      | inr u ↦ absurd (a (any_intro I.size fails y hy (so_and _ _ p ((opposite_true D I l y).1 u))))
    ])))
  ]
    where
      fails : ℕ → Bool
      fails y = I.role r x y && holds D I (opposite l) y
