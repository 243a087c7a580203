-- The weights of the cells as the code adds them up: those of both sides in one word, the lower above 16 bits, the upper below them.
use Rattle.std.specs.Prelude.{ℕ, ◌+◌, ◌*◌, ◌/◌, ◌%◌, ◌≤◌, ◌<◌, ◌≡◌, Bool, ◌&&◌, List, [], ◌∷◌, eqb, leb, ltb, length, get_or}
use Rattle.logic.specs.Bounded.{any_below}
use Rattle.logic.specs.Sets.{has}
use Rattle.logic.specs.Sums.{sum_below, only}
use Rattle.counting.specs.Trees as Counting
use Rattle.counting.specs.Trees.{lower, upper}
use Rattle.rows.specs.HeldRows.{side_of}
use Rattle.list_leaf.specs.declared.Limit.{Limit}
use Rattle.list_leaf.specs.Leaf.{limit_at, marked}

abbrev pub packed : Counting.Side → ℕ → ℕ
packed lower m = m * 65536
packed upper m = m

-- the multiplier of limit i, packed
abbrev pub part_at : List Limit → List ℕ → ℕ → ℕ
part_at way ms i = packed (side_of (limit_at way i).side) (get_or ms i 0)

-- ---- the rows
-- the parts of n rows, and 0 behind them
pub record RowParts (way : List Limit) (ms : List ℕ) (n : ℕ) (ps : List ℕ) : Type 0 where
  pub size : length ps ≡ 6
  pub at : (i : ℕ) → i < n → get_or ps i 0 ≡ part_at way ms i
  pub none : (i : ℕ) → n ≤ i → get_or ps i 0 ≡ 0
  pub most : (i : ℕ) → get_or ps i 0 ≤ 16711680

-- the parts p of the rows below n in which cell c counts, added up
unfoldable pub cell_sum : ℕ → (ℕ → ℕ) → ℕ → ℕ
cell_sum n p c = sum_below n (λ i. only (has c i) (p i))

-- the sums of the sets of three parts
abbrev pub eight_of : ℕ → ℕ → ℕ → List ℕ
eight_of p q r = 0 ∷ p ∷ q ∷ (p + q) ∷ r ∷ (p + r) ∷ (q + r) ∷ (p + q + r) ∷ []

-- ---- the splits
-- the parts of the splits of cell c, added up: limits k to n - 1
unfoldable pub split_sum : List Limit → List ℕ → ℕ → ℕ → ℕ → ℕ
split_sum way ms k n c = sum_below n (λ i. only (leb k i && eqb (limit_at way i).cell c) (part_at way ms i))

-- such sums at the cells below 64, but cell 0
pub record SplitSums (way : List Limit) (ms : List ℕ) (k n : ℕ) (sums : List ℕ) : Type 0 where
  pub size : length sums ≡ 64
  pub most : (c : ℕ) → c < 64 → get_or sums c 0 ≤ 16711680 * n
  pub at : (c : ℕ) → 0 < c → c < 64 → get_or sums c 0 ≡ split_sum way ms k n c

-- ---- the balance
-- cell at + i is marked, and weighs more on the lower side
abbrev pub unfair_at : List ℕ → ℕ → List ℕ → List Bool → ℕ → ℕ → Bool
unfair_at low high sums marks at i = ltb ((get_or sums (at + i) 0 + get_or low i 0 + high) % 65536) ((get_or sums (at + i) 0 + get_or low i 0 + high) / 65536) && marked marks (at + i)

-- so is one of the eight cells from 8 * b
abbrev pub unfair_block : List ℕ → List ℕ → List Bool → ℕ → Bool
unfair_block ps sums marks b = any_below 8 (unfair_at (eight_of (get_or ps 0 0) (get_or ps 1 0) (get_or ps 2 0)) (get_or (eight_of (get_or ps 3 0) (get_or ps 4 0) (get_or ps 5 0)) b 0) sums marks (8 * b))
