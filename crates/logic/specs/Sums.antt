-- Sums and counts over the numbers below a bound.
use Rattle.std.specs.Prelude.{ℕ, zero, suc, ◌+◌, ◌*◌, ◌≤◌, ◌<◌, max, ◌≡◌, refl, ◌⊎◌, ◌≢◌, Bool, true, false, not, ◌&&◌, eqb}
use Rattle.std.proofs.Common.{sym, ◌∙◌, ap, inl, inr, arith, add-suc, add-zero}
use Rattle.std.proofs.lemmas.Bool.{false≢true}
use Rattle.logic.specs.Tests.{So, decide, and_l, and_r, not_so, so_false, so_eqb, eqb_so}
use Rattle.logic.specs.Bounded.{below_cases}

-- f 0 + … + f (n - 1)
unfoldable pub sum_below : ℕ → (ℕ → ℕ) → ℕ
sum_below zero f = 0
sum_below (suc n) f = sum_below n f + f n

-- n where the test passes, and 0 elsewhere
abbrev pub only : Bool → ℕ → ℕ
only true n = n
only false n = 0

-- how many numbers below n pass
abbrev pub count_below : ℕ → (ℕ → Bool) → ℕ
count_below n p = sum_below n (λ i. only (p i) 1)

-- the greatest of f 0, …, f (n - 1), and 0
unfoldable pub max_below : ℕ → (ℕ → ℕ) → ℕ
max_below zero f = 0
max_below (suc n) f = max (max_below n f) (f n)

pub max_above : (n : ℕ) (f : ℕ → ℕ) (i : ℕ) → i < n → f i ≤ max_below n f
unfolding max_below
max_above zero f i h = absurd (omega arith)
max_above (suc n) f i h = elim (below_cases i n h) [ inl q ↦ omega (arith, max_above n f i q) | inr q ↦ rw q (omega arith) ]

-- ---- only
pub only_on : (b : Bool) (a : ℕ) → So b → only b a ≡ a
only_on b a h = ap (λ b. only b a) h

pub only_off : (b : Bool) (a : ℕ) → (So b → ⊥) → only b a ≡ 0
only_off b a h = ap (λ b. only b a) (so_false b h)

pub only_zero : (b : Bool) → only b 0 ≡ 0
only_zero true = refl
only_zero false = refl

pub only_le : (b : Bool) (a : ℕ) → only b a ≤ a
only_le true a = omega arith
only_le false a = omega arith

pub only_mono : (a b : Bool) (n : ℕ) → (So a → So b) → only a n ≤ only b n
only_mono true b n h = rw (h refl) (omega arith)
only_mono false b n h = omega arith

pub only_add : (b : Bool) (m n : ℕ) → only b (m + n) ≡ only b m + only b n
only_add true m n = refl
only_add false m n = refl

pub only_only : (a b : Bool) (n : ℕ) → only a (only b n) ≡ only (a && b) n
only_only true b n = refl
only_only false b n = refl

-- ---- sums
pub sum_cong : (n : ℕ) (f g : ℕ → ℕ) → ((i : ℕ) → i < n → f i ≡ g i) → sum_below n f ≡ sum_below n g
unfolding sum_below
sum_cong zero f g h = refl
sum_cong (suc n) f g h = omega (arith, sum_cong n f g (λ i k. h i (omega arith)), h n (omega arith))

pub sum_le : (n : ℕ) (f g : ℕ → ℕ) → ((i : ℕ) → i < n → f i ≤ g i) → sum_below n f ≤ sum_below n g
unfolding sum_below
sum_le zero f g h = omega arith
sum_le (suc n) f g h = omega (arith, sum_le n f g (λ i k. h i (omega arith)), h n (omega arith))

pub sum_zero : (n : ℕ) (f : ℕ → ℕ) → ((i : ℕ) → i < n → f i ≡ 0) → sum_below n f ≡ 0
unfolding sum_below
sum_zero zero f h = refl
sum_zero (suc n) f h = omega (arith, sum_zero n f (λ i k. h i (omega arith)), h n (omega arith))

pub sum_add : (n : ℕ) (f g : ℕ → ℕ) → sum_below n (λ i. f i + g i) ≡ sum_below n f + sum_below n g
unfolding sum_below
sum_add zero f g = refl
sum_add (suc n) f g = omega (arith, sum_add n f g)

pub sum_mul : (n m : ℕ) (f : ℕ → ℕ) → sum_below n (λ i. m * f i) ≡ m * sum_below n f
unfolding sum_below
sum_mul zero m f = omega arith
sum_mul (suc n) m f = omega (arith, sum_mul n m f)

pub sum_append : (a b : ℕ) (f : ℕ → ℕ) → sum_below (a + b) f ≡ sum_below a f + sum_below b (λ i. f (a + i))
unfolding sum_below
sum_append a zero f = rw (add-zero a) (omega arith)
sum_append a (suc b) f = rw add-suc (omega (arith, sum_append a b f))

pub sum_swap : (n m : ℕ) (f : ℕ → ℕ → ℕ) → sum_below n (λ i. sum_below m (λ j. f i j)) ≡ sum_below m (λ j. sum_below n (λ i. f i j))
unfolding sum_below
sum_swap zero m f = sym (sum_zero m (λ j. 0) (λ i h. refl))
sum_swap (suc n) m f = ap (◌+ sum_below m (λ j. f n j)) (sum_swap n m f) ∙ sym (sum_add m (λ j. sum_below n (λ i. f i j)) (λ j. f n j))

-- one term
pub sum_at_lem : (n : ℕ) (f : ℕ → ℕ) (k : ℕ) → k < n → f k ≤ sum_below n f
unfolding sum_below
sum_at_lem zero f k h = absurd (omega arith)
sum_at_lem (suc n) f k h = elim (below_cases k n h) [ inl q ↦ omega (arith, sum_at_lem n f k q) | inr q ↦ rw q (omega arith) ]

-- the sum of an f that is 0 but at k
pub sum_one : (n : ℕ) (f : ℕ → ℕ) (k : ℕ) → k < n → ((i : ℕ) → i < n → i ≢ k → f i ≡ 0) → sum_below n f ≡ f k
unfolding sum_below
sum_one zero f k h z = omega arith
sum_one (suc n) f k h z = elim (below_cases k n h) [
  | inl q ↦ omega (arith, sum_one n f k q (λ i r s. z i (omega arith) s), z n (omega arith) (omega arith))
  | inr q ↦ rw q (omega (arith, sum_zero n f (λ i r. z i (omega arith) (omega arith))))
]

-- ---- counts
pub count_le : (n : ℕ) (p q : ℕ → Bool) → ((i : ℕ) → i < n → So (p i) → So (q i)) → count_below n p ≤ count_below n q
count_le n p q h = sum_le n (λ i. only (p i) 1) (λ i. only (q i) 1) (λ i k. only_mono (p i) (q i) 1 (h i k))

pub count_eq : (n : ℕ) (p q : ℕ → Bool) → ((i : ℕ) → i < n → So (p i) → So (q i)) → ((i : ℕ) → i < n → So (q i) → So (p i))
    → count_below n p ≡ count_below n q
count_eq n p q h k = omega (arith, count_le n p q h, count_le n q p k)

pub count_bound : (n : ℕ) (p : ℕ → Bool) → count_below n p ≤ n
unfolding sum_below
count_bound zero p = omega arith
count_bound (suc n) p = omega (arith, count_bound n p, only_le (p n) 1)

pub count_all : (n : ℕ) (p : ℕ → Bool) → ((i : ℕ) → i < n → So (p i)) → count_below n p ≡ n
unfolding sum_below
count_all zero p h = refl
count_all (suc n) p h = omega (arith, count_all n p (λ i k. h i (omega arith)), only_on (p n) 1 (h n (omega arith)))

-- something is counted exactly if the count is above zero
pub count_pos : (n : ℕ) (p : ℕ → Bool) → 1 ≤ count_below n p → (i : ℕ) × (i < n) × So (p i)
unfolding sum_below
count_pos zero p h = absurd (omega arith)
count_pos (suc n) p h = elim (decide (p n)) [
  | inl k ↦ (n, omega arith, k)
  | inr k ↦ let r = count_pos n p (omega (arith, only_off (p n) 1 k)) in (r.0, omega (arith, r.1), r.2)
]

pub count_some : (n : ℕ) (p : ℕ → Bool) (i : ℕ) → i < n → So (p i) → 1 ≤ count_below n p
count_some n p i h e = omega (arith, sum_at_lem n (λ i. only (p i) 1) i h, only_on (p i) 1 e)

-- one fewer passes
pub count_remove : (n : ℕ) (p : ℕ → Bool) (k : ℕ) → k < n → So (p k) → count_below n (λ i. p i && not (eqb i k)) < count_below n p
unfolding sum_below
count_remove zero p k h e = omega arith
count_remove (suc n) p k h e = elim (below_cases k n h) [
  | inl q ↦ omega (arith, count_remove n p k q e, only_mono (p n && not (eqb n k)) (p n) 1 (λ u. and_l _ _ u))
  | inr q ↦ omega (
    arith,
    count_le n (λ i. p i && not (eqb i k)) p (λ i _ u. and_l _ _ u),
    only_on (p n) 1 (rw q at e),
    only_off (p n && not (eqb n k)) 1 (λ u. not_so (eqb n k) (and_r (p n) _ u) (rw q (eqb_so n))),
  )
]

-- a count by classes: y is in class f y
pub count_classes : (d N : ℕ) (f : ℕ → ℕ) (p : ℕ → Bool) → ((y : ℕ) → y < d → f y < N)
    → sum_below N (λ c. count_below d (λ y. eqb (f y) c && p y)) ≡ count_below d p
count_classes d N f p h = sum_swap N d (λ c y. only (eqb (f y) c && p y) 1)
    ∙ sum_cong d _ (λ y. only (p y) 1) (λ y k. sum_one N (λ c. only (eqb (f y) c && p y) 1) (f y) (h y k) (λ c _ s. other y c s) ∙ same y)
  where
    other : (y c : ℕ) → c ≢ f y → only (eqb (f y) c && p y) 1 ≡ 0
    other y c s = only_off (eqb (f y) c && p y) 1 (λ u. s (sym (so_eqb (f y) c (and_l (eqb (f y) c) (p y) u))))

    same : (y : ℕ) → only (eqb (f y) (f y) && p y) 1 ≡ only (p y) 1
    same y = ap (λ b. only (b && p y) 1) (eqb_so (f y))

-- the first number, and the rest
pub sum_front : (n : ℕ) (f : ℕ → ℕ) → sum_below (suc n) f ≡ f 0 + sum_below n (λ i. f (suc i))
unfolding sum_below
sum_front zero f = omega arith
sum_front (suc n) f = omega (arith, sum_front n f)
