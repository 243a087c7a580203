-- The union of the sets f 0, …, f (n - 1), as a loop makes it.
use Rattle.std.specs.Prelude.{ℕ, zero, suc, ◌+◌, ◌≤◌, ◌≡◌, Bool, true, false, ◌&&◌, ◌||◌}
use Rattle.std.proofs.Math.Path.{refl}
use Rattle.std.proofs.Common.{◌∙◌, ap, arith, add-one}
use Rattle.std.specs.Int.Bits.{bit_or}
use Rattle.logic.specs.Bounded.{any_below}
use Rattle.logic.specs.Sums.{only}
use Rattle.logic.specs.Sets.{has}
use Rattle.logic.specs.SetLaws.{has_none, has_or}

unfoldable pub union_below : ℕ → (ℕ → ℕ) → ℕ
union_below zero f = 0
union_below (suc n) f = bit_or (union_below n f) (f n)

-- ---- its members
pub has_only : (b : Bool) (m i : ℕ) → has (only b m) i ≡ (b && has m i)
has_only true m i = refl
has_only false m i = has_none i

pub has_union : (n : ℕ) (f : ℕ → ℕ) (i : ℕ) → has (union_below n f) i ≡ any_below n (λ j. has (f j) i)
unfolding union_below any_below
has_union zero f i = has_none i
has_union (suc n) f i = has_or (union_below n f) (f n) i ∙ ap (λ b. b || has (f n) i) (has_union n f i)

-- ---- for a loop that unites: what is known after the first j
pub union_none : (f : ℕ → ℕ) → 0 ≡ union_below 0 f
unfolding union_below
union_none f = refl

module _ (f : ℕ → ℕ) (j t : ℕ) (e : t ≡ union_below j f) where
  pub union_more : (v : ℕ) → v ≡ f j → bit_or t v ≡ union_below (j + 1) f
  unfolding union_below
  union_more v h = rw (add-one j, e, h) refl

  pub union_done : (n : ℕ) → j ≤ n → n ≤ j → t ≡ union_below n f
  union_done n h k = let z : j ≡ n = omega arith in rw z at e
