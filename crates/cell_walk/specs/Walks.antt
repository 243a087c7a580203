-- The roles of a counting step's cells, kept from one cell to the next, and the count that is kept with them (02, job 3; FORMAT 6).
-- Row i counts the fillers of cell c where c has bit i; cell 0 is in no row. `above` has for each of six rows the roles that it gives
-- to its cells: its own and all above it.
use Rattle.std.specs.Prelude.{ℕ, zero, suc, ◌+◌, ◌^◌, ◌<◌, ◌≡◌, Bool, true, false, cond, not, ◌&&◌, List, leb, ltb, length, get_or}
use Rattle.std.specs.Int.Bits.{bit_or}
use Rattle.logic.specs.Tests.{So}
use Rattle.logic.specs.Bounded.{all_below, any_below}
use Rattle.logic.specs.Sums.{count_below}
use Rattle.logic.specs.Sets.{has}

-- ---- the rows that change
-- row i comes in or goes out: it is in one of the cells c and d alone
abbrev pub differs : ℕ → ℕ → ℕ → Bool
differs c d i = cond (has c i) (not (has d i)) (has d i)

-- how many do from cell c to cell d
unfoldable pub changes_to : ℕ → ℕ → ℕ
changes_to c d = count_below 6 (differs c d)

-- and how many on the way from cell 0, one cell after another, to cell c
unfoldable pub changes_up_to : ℕ → ℕ
changes_up_to zero = 0
changes_up_to (suc c) = changes_up_to c + changes_to c (suc c)

-- ---- the roles
-- row j gives role t to cell c
abbrev pub row_gives : List ℕ → ℕ → ℕ → ℕ → Bool
row_gives above c t j = has c j && has (get_or above j 0) t

-- t is among the roles of cell c
unfoldable pub roles_in : List ℕ → ℕ → ℕ → Bool
roles_in above c t = any_below 6 (row_gives above c t)

-- and is given by a row from i up
unfoldable pub roles_from : List ℕ → ℕ → ℕ → ℕ → Bool
roles_from above c i t = any_below 6 (λ j. leb i j && row_gives above c t j)

-- the running value at cell c: mask i has the roles that the rows from i up give; mask 6, past the last row, has none
pub record Walked (above : List ℕ) (c : ℕ) (from : List ℕ) : Type 0 where
  pub size : length from ≡ 7
  pub roles : (i : ℕ) → i < 7 → (t : ℕ) → has (get_or from i 0) t ≡ roles_from above c i t

-- ---- one step, to cell d
-- the masks of the rows that pass p are corrected: such a mask is the next one, with the roles that the row gives if the cell is in
-- the row; all other masks are as they were
pub record CorrectedAt (above : List ℕ) (d : ℕ) (p : ℕ → Bool) (old new : List ℕ) : Type 0 where
  pub size : length new ≡ 7
  pub changed : (i : ℕ) → So (p i)
      → get_or new i 0 ≡ cond (has d i) (bit_or (get_or new (i + 1) 0) (get_or above i 0)) (get_or new (i + 1) 0)
  pub other : (i : ℕ) → p i ≡ false → get_or new i 0 ≡ get_or old i 0

-- from cell c just the rows that change
abbrev pub Corrected : List ℕ → ℕ → ℕ → List ℕ → List ℕ → Type 0
Corrected above c d = CorrectedAt above d (λ i. ltb i 6 && differs c d i)

-- ---- a walk over the cells of k rows, from cell 0 on; p tests a cell
-- it has come to the first cell that fails, or to the last, and has counted the rows that changed on the way
pub record Tally (k : ℕ) (p : ℕ → Bool) (fine : Bool) (cells changes : ℕ) : Type 0 where
  pub count : changes ≡ changes_up_to cells
  pub before : all_below cells p ≡ true
  pub here : fine ≡ all_below (cells + 1) p
  pub inside : cells < 2 ^ k
  pub whole : fine ≡ true → cells + 1 ≡ 2 ^ k
