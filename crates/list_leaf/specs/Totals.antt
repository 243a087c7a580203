-- The totals of a leaf as the code adds them up: both in one word, the lower above 32 bits, the upper below them.
use Rattle.std.specs.Prelude.{ℕ, zero, suc, ◌+◌, ◌*◌, ◌/◌, ◌%◌, ◌≤◌, ◌<◌, ◌≡◌, List, [], ◌∷◌, length, get_or}
use Rattle.std.proofs.Math.Path.{refl, sym}
use Rattle.std.proofs.Common.{◌∙◌, ap, mul-le-mul, add-one, arith}
use Rattle.logic.specs.Bounded.{up_to_lem}
use Rattle.logic.specs.Lists.{tabulate}
use Rattle.logic.specs.Sums.{sum_below, only, sum_front}
use Rattle.counting.specs.Trees as Counting
use Rattle.counting.specs.Trees.{lower, upper, same_side, price, worth}
use Rattle.rows.specs.HeldRows.{side_of}
use Rattle.list_leaf.specs.declared.Limit.{Limit}
use Rattle.list_leaf.specs.Leaf.{limit_at, counts, limits_held}

abbrev pub price_of : Counting.Side → Limit → ℕ → ℕ
price_of s x m = only (same_side s (side_of x.side)) (m * x.bound)

unfoldable pub total_of : Counting.Side → List Limit → List ℕ → ℕ → ℕ
total_of s way ms n = sum_below n (λ i. price_of s (limit_at way i) (get_or ms i 0))

-- what a multiplier adds
pub record Priced (x : Limit) (m p : ℕ) : Type 0 where
  pub is : p ≡ 4294967296 * price_of lower x m + price_of upper x m
  pub most : (s : Counting.Side) → price_of s x m ≤ 16711425

-- the totals under the first n limits; each multiplier is a byte
pub record Totals (way : List Limit) (ms : List ℕ) (n sum : ℕ) : Type 0 where
  pub is : sum ≡ 4294967296 * total_of lower way ms n + total_of upper way ms n
  pub most : (s : Counting.Side) → total_of s way ms n ≤ 16711425 * n
  pub small : (i : ℕ) → i < n → get_or ms i 0 < 256

-- ---- for the price
only_same : (s t : Counting.Side) (p : ℕ) → p ≤ 16711425 → only (same_side s t) p ≤ 16711425
only_same lower lower p h = h
only_same lower upper p h = omega arith
only_same upper lower p h = omega arith
only_same upper upper p h = h

module _ (x : Limit) (m : ℕ) (h : m < 256) (b : x.bound < 65536) where
  pub price_most : m * x.bound ≤ 16711425
  price_most = mul-le-mul {n₂ = 255} {m₂ = 65535} (omega arith) (omega arith)

  pub priced_lower : (p : ℕ) → side_of x.side ≡ lower → p ≡ m * x.bound * 4294967296 → Priced x m p
  priced_lower p e q = record { is = q ∙ rw e (omega arith); most = λ s. only_same s (side_of x.side) (m * x.bound) price_most }

  pub priced_upper : (p : ℕ) → side_of x.side ≡ upper → p ≡ m * x.bound → Priced x m p
  priced_upper p e q = record { is = q ∙ rw e (omega arith); most = λ s. only_same s (side_of x.side) (m * x.bound) price_most }

-- ---- for the loop
module _ (way : List Limit) (ms : List ℕ) where
  pub totals_none : Totals way ms 0 0
  unfolding total_of sum_below
  totals_none = record { is = refl; most = λ s. omega arith; small = λ i h. absurd (omega arith) }

  total_more : (s : Counting.Side) (i : ℕ) → total_of s way ms (i + 1) ≡ total_of s way ms i + price_of s (limit_at way i) (get_or ms i 0)
  unfolding total_of sum_below
  total_more s i = rw (add-one i) refl

  pub totals_more : (i sum p : ℕ) → get_or ms i 0 < 256 → Priced (limit_at way i) (get_or ms i 0) p → Totals way ms i sum → Totals way ms (i + 1) (sum + p)
  totals_more i sum p b q t = record {
    is = rw (total_more lower i, total_more upper i, t.is, q.is) (omega arith);
    most = λ s. rw (total_more s i) (omega (arith, t.most s, q.most s));
    small = λ j l. up_to_lem (λ j. get_or ms j 0 < 256) i t.small b j (omega arith);
  }

-- ---- the totals are those of the theory
worth_sum : (s : Counting.Side) (n : ℕ) (l : ℕ → Counting.Limit) (ms : List ℕ) → length ms ≡ n
    → worth s (tabulate n l) ms ≡ sum_below n (λ i. price s (l i) (get_or ms i 0))
unfolding tabulate sum_below
worth_sum s zero l ms e = refl
worth_sum s (suc n) l [] e = absurd (omega arith)
worth_sum s (suc n) l (m ∷ ms) e = ap (λ (x : ℕ). price s (l 0) m + x) (worth_sum s n (λ i. l (suc i)) ms (omega arith))
    ∙ sym (sum_front n (λ i. price s (l i) (get_or (m ∷ ms) i 0)))

module _ (k : ℕ) (way : List Limit) (ms : List ℕ) where
  pub total_is : (s : Counting.Side) → total_of s way ms (length ms) ≡ worth s (limits_held k way (length ms)) ms
  unfolding total_of
  total_is s = sym (worth_sum s (length ms) (λ i. Counting.limit (side_of (limit_at way i).side) (limit_at way i).bound (counts k i (limit_at way i).cell)) ms refl)

-- both out of the word
pub lower_out : (way : List Limit) (ms : List ℕ) (n sum : ℕ) → n ≤ 14 → Totals way ms n sum → sum / 4294967296 ≡ total_of lower way ms n
lower_out way ms n sum h t = let a = t.most upper in rw t.is (omega arith)

pub upper_out : (way : List Limit) (ms : List ℕ) (n sum : ℕ) → n ≤ 14 → Totals way ms n sum → sum % 4294967296 ≡ total_of upper way ms n
upper_out way ms n sum h t = let a = t.most upper in rw t.is (omega arith)

pub totals_fit : (way : List Limit) (ms : List ℕ) (n sum : ℕ) → n ≤ 14 → Totals way ms n sum → (sum / 4294967296 < 1073741824) × (sum % 4294967296 < 1073741824)
totals_fit way ms n sum h t = (omega (arith, lower_out way ms n sum h t, t.most lower), omega (arith, upper_out way ms n sum h t, t.most upper))
