-- The greatest total of a record's edges to one target, edge by edge.
use Rattle.std.specs.Prelude.{ℕ, zero, suc, ◌+◌, ◌*◌, ◌≤◌, ◌<◌, max, ◌≡◌, refl, List, eqb, ltb}
use Rattle.std.proofs.Common.{sym, ◌∙◌, arith, add-one, lt-ltb, le-ltb}
use Rattle.std.proofs.Math.Decide.{dec_lt}
use Rattle.logic.specs.Tests.{so_eqb}
use Rattle.logic.specs.Sums.{sum_below, only, only_off, max_below}
use Rattle.parts.specs.Numbers.{byte_at, num2}
use Rattle.copies.specs.Copying.{count_to, sum_to}

-- no edge
pub sum_start : (es : List ℕ) (y : ℕ) → 0 ≡ sum_to es 0 y
unfolding sum_below
sum_start es y = refl

pub most_start : (es : List ℕ) (n : ℕ) → 0 ≡ max_below n (sum_to es 0)
unfolding max_below sum_below
most_start es zero = refl
most_start es (suc n) = omega (arith, most_start es n)

-- one edge more
pub sum_more : (es : List ℕ) (j y s c : ℕ) → s ≡ sum_to es j y → c ≡ count_to es y j → s + c ≡ sum_to es (j + 1) y
unfolding sum_below
sum_more es j y s c p q = rw (add-one j) (omega arith)

-- the greatest of numbers of which one has grown
max_raised : (n i : ℕ) (f g : ℕ → ℕ) → ((y : ℕ) → (i ≡ y → ⊥) → g y ≡ f y) → f i ≤ g i → max_below n g ≡ max (max_below n f) (only (ltb i n) (g i))
unfolding max_below
max_raised zero i f g h l = rw (le-ltb i 0 (omega arith)) refl
max_raised (suc n) i f g h l = go (dec_lt i n) (dec_lt n i) (max_raised n i f g h l)
  where
    go : Dec (i < n) → Dec (n < i) → max_below n g ≡ max (max_below n f) (only (ltb i n) (g i)) → max (max_below n g) (g n) ≡ max (max (max_below n f) (f n)) (only (ltb i (suc n)) (g i))
    go (yes p) q e = let r = rw (lt-ltb i n p) at e in rw (lt-ltb i (suc n) (omega arith), h n (omega arith), r) (omega arith)
    go (no p) (yes q) e = let r = rw (le-ltb i n (omega arith)) at e in rw (le-ltb i (suc n) (omega arith), h n (omega arith), r) (omega arith)
    go (no p) (no q) e = let z : i ≡ n = omega arith in let r = rw (le-ltb i n (omega arith)) at e in rw (lt-ltb i (suc n) (omega arith), r, ← z) (omega (arith, l))

-- the greatest total, one edge more: only that to its target has grown
pub most_more : (es : List ℕ) (n j y m s r : ℕ) → y ≡ byte_at es (5 * j) → m ≡ max_below n (sum_to es j) → s ≡ sum_to es (j + 1) y
    → r ≡ max m (only (ltb y n) s)
    → r ≡ max_below n (sum_to es (j + 1))
most_more es n j y m s r e p q k = k ∙ rw (p, q) (sym (max_raised n y (sum_to es j) (sum_to es (j + 1)) kept (omega (arith, next y))))
  where
    next : (z : ℕ) → sum_to es j z + count_to es z j ≡ sum_to es (j + 1) z
    next z = sum_more es j z _ _ refl refl

    kept : (z : ℕ) → (y ≡ z → ⊥) → sum_to es (j + 1) z ≡ sum_to es j z
    kept z d = sym (next z) ∙ rw (only_off (eqb (byte_at es (5 * j)) z) (num2 es (5 * j + 3))
        (λ u. d (e ∙ so_eqb (byte_at es (5 * j)) z u))) (omega arith)
