-- Worked examples of the walk over cells, by computing.
use Rattle.std.specs.Prelude.{ℕ, ◌≡◌, refl, List, [], ◌∷◌}
use Rattle.logic.specs.Bounded.{any_below}
use Rattle.logic.specs.Sums.{sum_below}
use Rattle.logic.specs.Sets.{has, set_of}
use Rattle.cell_walk.specs.Walks.{changes_to, changes_up_to, roles_in, roles_from}

-- ---- the count
-- from cell 3 to cell 4 rows 0 and 1 go out and row 2 comes in; from cell 4 to cell 5 row 0 comes in
rows_change : (changes_to 3 4 ≡ 3) × (changes_to 4 5 ≡ 1)
unfolding changes_to has sum_below
rows_change = (refl, refl)

-- the cells of one to six rows
counts : List ℕ
counts = changes_up_to 1 ∷ changes_up_to 3 ∷ changes_up_to 7 ∷ changes_up_to 15 ∷ changes_up_to 31 ∷ changes_up_to 63 ∷ []

counts_are : counts ≡ 1 ∷ 4 ∷ 11 ∷ 26 ∷ 57 ∷ 120 ∷ []
unfolding counts changes_up_to changes_to has sum_below
counts_are = refl

-- ---- the roles
-- three rows: the first gives the roles 0 and 1, the second 1 and 2, the third 0 and 3
above : List ℕ
above = 3 ∷ 6 ∷ 9 ∷ 0 ∷ 0 ∷ 0 ∷ []

-- the roles of the cells as masks
roles : ℕ → ℕ
roles c = set_of 16 (roles_in above c)

-- from cell 1 to cell 2 the first row goes out: role 1 stays by the second, role 0 goes. From cell 5 to cell 6 it goes out again: role 0
-- stays by the third. From cell 7 to cell 8 all go out
roles_are : (roles 1 ≡ 3) × (roles 2 ≡ 6) × (roles 5 ≡ 11) × (roles 6 ≡ 15) × (roles 7 ≡ 15) × (roles 8 ≡ 0)
unfolding roles roles_in above has set_of any_below
roles_are = (refl, refl, refl, refl, refl, refl)

-- at cell 6 from each row up: the first adds nothing, for the cell is not in it; none is behind the third
mask : ℕ → ℕ
mask i = set_of 16 (roles_from above 6 i)

masks_are : (mask 0 ≡ 15) × (mask 1 ≡ 15) × (mask 2 ≡ 9) × (mask 3 ≡ 0)
unfolding mask roles_from above has set_of any_below
masks_are = (refl, refl, refl, refl)
