-- Within any sizes that keep the limits lie some that keep them and total no more than the lower bounds added up.
use Rattle.std.specs.Prelude.{ℕ, zero, suc, ◌+◌, ◌-◌, min, max, ◌≤◌, ◌≡◌, refl, Bool, true, false, ◌&&◌, List, [], ◌∷◌}
use Rattle.std.proofs.Common.{arith}
use Rattle.logic.specs.Sums.{sum_below, only, only_le, sum_le, sum_cong, sum_add, sum_zero}
use Rattle.counting.specs.Trees.{lower, upper, Limit, limit, live, total, HoldAll}

-- a lower limit's bound, and 0 for an upper limit
abbrev pub lower_of : Limit → ℕ
lower_of (limit lower b k) = b
lower_of (limit upper b k) = 0

-- the lower bounds, added up
abbrev pub lowers_of : List Limit → ℕ
lowers_of [] = 0
lowers_of (l ∷ ls) = lower_of l + lowers_of ls

-- the sizes q, cut off where they total b
cut : (ℕ → ℕ) → ℕ → ℕ → ℕ
cut q b c = min (q c) (b - sum_below c q)

cut_le : (q : ℕ → ℕ) (b c : ℕ) → cut q b c ≤ q c
unfolding cut
cut_le q b c = omega arith

cut_sum : (q : ℕ → ℕ) (b n : ℕ) → sum_below n (cut q b) ≡ min (sum_below n q) b
unfolding cut sum_below
cut_sum q b zero = omega arith
cut_sum q b (suc n) = omega (arith, cut_sum q b n)

module _ (n : ℕ) (open? : ℕ → Bool) where
  total_mono : (x y : ℕ → ℕ) → ((c : ℕ) → x c ≤ y c) → (k : ℕ → Bool) → total n open? x k ≤ total n open? y k
  total_mono x y h k = sum_le n _ _ (λ c _. point (live open? c && k c) (h c))
    where
      point : (g : Bool) {p q : ℕ} → p ≤ q → only g p ≤ only g q
      point true h = h
      point false h = omega arith

  -- sizes between two that keep the limits keep them: the lower limits by the smaller ones, the upper limits by the greater ones
  between : (ls : List Limit) (x y z : ℕ → ℕ) → ((c : ℕ) → x c ≤ y c) → ((c : ℕ) → y c ≤ z c)
      → HoldAll n open? ls x → HoldAll n open? ls z → HoldAll n open? ls y
  between [] x y z p q h k = tt
  between (limit lower b r ∷ ls) x y z p q h k = (omega (arith, total_mono x y p r), between ls x y z p q h.1 k.1)
  between (limit upper b r ∷ ls) x y z p q h k = (omega (arith, total_mono y z q r), between ls x y z p q h.1 k.1)

  -- sizes within x that keep the limits, and total no more than the lower bounds do
  abbrev pub Small : List Limit → (ℕ → ℕ) → Type 0
  Small ls x = (y : ℕ → ℕ) × ((c : ℕ) → y c ≤ x c) × HoldAll n open? ls y × (sum_below n y ≤ lowers_of ls)

  -- each lower limit takes its bound out of x, and the greatest that some limit takes of a cell serves them all
  pub small : (ls : List Limit) (x : ℕ → ℕ) → HoldAll n open? ls x → Small ls x
  small [] x h = (λ _. 0, λ c. omega arith, tt, omega (arith, sum_zero n (λ _. 0) (λ _ _. refl)))
  small (limit upper b k ∷ ls) x h = let (y, le, holds, few) = small ls x h.1 in
      (y, le, (omega (arith, total_mono y x le k), holds), omega arith)
  small (limit lower b k ∷ ls) x h = go (small ls x h.1)
    where
      q : ℕ → ℕ
      q c = only (live open? c && k c) (x c)

      taken : ℕ → ℕ
      taken = cut q b

      taken_total : total n open? taken k ≡ sum_below n taken
      taken_total = sum_cong n _ taken (λ c _. point (live open? c && k c) (x c) (taken c) (cut_le q b c))
        where
          point : (g : Bool) (a d : ℕ) → d ≤ only g a → only g d ≡ d
          point true a d h = refl
          point false a d h = omega arith

      go : Small ls x → Small (limit lower b k ∷ ls) x
      go (y, le, holds, few) = (
        z,
        z_le,
        (omega (arith, h.0, cut_sum q b n, taken_total, total_mono taken z (λ c. omega arith) k), between ls y z x (λ c. omega arith) z_le holds h.1),
        omega (arith, sum_le n z (λ c. taken c + y c) (λ c _. omega arith), sum_add n taken y, cut_sum q b n, few),
      )
        where
          z : ℕ → ℕ
          z c = max (taken c) (y c)

          z_le : (c : ℕ) → z c ≤ x c
          z_le c = omega (arith, cut_le q b c, only_le (live open? c && k c) (x c), le c)
