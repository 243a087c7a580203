-- Laws for the code of the walk over cells.
use Rattle.std.specs.Prelude.{ℕ, ◌+◌, ◌≤◌, ◌<◌, ◌≡◌, ltb}
use Rattle.cell_walk.specs.Walks.{differs, changes_up_to}

-- ---- the rows that change
-- from cell c to the next the first n rows change, and no other
pub record FirstChange (c n : ℕ) : Type 0 where
  pub few : n ≤ 6
  pub rows : (i : ℕ) → i < 6 → differs c (c + 1) i ≡ ltb i n
  pub count : changes_up_to c + n ≡ changes_up_to (c + 1)
