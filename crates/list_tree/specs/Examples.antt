-- Worked examples of 19 on bytes, on both sides: at most 1 and at least 3, with cells 1 and 2 shown empty and cell 3 open, or barred.
use Rattle.std.specs.Prelude.{ℕ, ◌≡◌, refl, Bool, true, false, List, [], ◌∷◌}
use Rattle.logic.specs.Bounded.{all_below}
use Rattle.logic.specs.Lists.{tabulate}
use Rattle.logic.specs.Sets.{has}
use Rattle.counting.specs.Trees.{lower, upper, leaf_test, tree_test}
use Rattle.list_form.specs.ListForm.{node_in, tree_in}
use Rattle.list_tree.specs.ListTree.{closing_in}

-- the step with this byte of cell 3 and this tree: its own byte, the number of rows, their literals, the cells
abbrev passes_with : ℕ → List ℕ → Bool
passes_with b tree = closing_in (record { side = upper; value = 1 } ∷ record { side = lower; value = 3 } ∷ [])
    (6 ∷ 2 ∷ 3 ∷ 4 ∷ 0 ∷ 0 ∷ b ∷ tree) 2

abbrev passes : List ℕ → Bool
passes = passes_with 255

-- a gap above zero; below; of zero; a cell out of balance; a multiplier cut off
leaves : (passes (0 ∷ 2 ∷ 2 ∷ []) ≡ true) × (passes (0 ∷ 2 ∷ 0 ∷ []) ≡ false) × (passes (0 ∷ 3 ∷ 1 ∷ []) ≡ false) × (passes (0 ∷ 1 ∷ 2 ∷ []) ≡ false)
    × (passes (0 ∷ 1 ∷ []) ≡ false)
unfolding closing_in tree_in node_in tree_test leaf_test all_below tabulate has
leaves = (refl, refl, refl, refl, refl)

-- a split whose halves close by the rows alone: at 1,000 and 1,001; of a cell shown empty, of cell 0, of a cell past the last
abbrev split_at : ℕ → ℕ → ℕ → Bool
split_at c high low = passes (1 ∷ c ∷ high ∷ low ∷ 0 ∷ 1 ∷ 1 ∷ 0 ∷ 0 ∷ 1 ∷ 1 ∷ 0 ∷ [])

splits : (split_at 3 3 232 ≡ true) × (split_at 3 3 233 ≡ false) × (split_at 2 0 1 ≡ false) × (split_at 0 0 1 ≡ false) × (split_at 4 0 1 ≡ false)
unfolding closing_in tree_in node_in tree_test leaf_test all_below tabulate has
splits = (refl, refl, refl, refl, refl)

-- a barred cell is not open: a leaf need not be in balance there, and it is not split
barred : (passes_with 254 (0 ∷ 1 ∷ 2 ∷ []) ≡ true) × (passes_with 254 (1 ∷ 3 ∷ 0 ∷ 1 ∷ 0 ∷ 1 ∷ 1 ∷ 0 ∷ 0 ∷ 1 ∷ 1 ∷ 0 ∷ []) ≡ false)
unfolding closing_in tree_in node_in tree_test leaf_test all_below tabulate has
barred = (refl, refl)

-- a split whose halves close against one row each: at most v against at least 3, at least v + 1 against at most 1
abbrev by_halves : ℕ → Bool
by_halves v = passes (1 ∷ 3 ∷ 0 ∷ v ∷ 0 ∷ 0 ∷ 1 ∷ 1 ∷ 0 ∷ 1 ∷ 0 ∷ 1 ∷ [])

halves : (by_halves 0 ≡ false) × (by_halves 1 ≡ true) × (by_halves 2 ≡ true) × (by_halves 3 ≡ false)
unfolding closing_in tree_in node_in tree_test leaf_test all_below tabulate has
halves = (refl, refl, refl, refl)

-- a split in the second half of another: above the last leaf stand at least 1 and then at least 2, whose multipliers come from the top.
-- Against 4 times at most 1, once the first and twice the second are 5, and twice the first and once the second are 4; the other leaves close by the rows
abbrev nested : ℕ → ℕ → Bool
nested outer inner = passes (1 ∷ 3 ∷ 0 ∷ 0 ∷ 0 ∷ 1 ∷ 1 ∷ 0 ∷ 1 ∷ 3 ∷ 0 ∷ 1 ∷ 0 ∷ 1 ∷ 1 ∷ 0 ∷ 0 ∷ 0 ∷ 4 ∷ 0 ∷ outer ∷ inner ∷ [])

from_the_top : (nested 1 2 ≡ true) × (nested 2 1 ≡ false)
unfolding closing_in tree_in node_in tree_test leaf_test all_below tabulate has
from_the_top = (refl, refl)
