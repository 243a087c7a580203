-- Rows over cells (01, "The counting step"): which rows count a filler is the number of its cell, bit i for row i.
use Rattle.std.specs.Prelude.{ℕ, suc, ◌+◌, ◌^◌, ◌<◌, Bool, List, [], ◌∷◌, length, get_or}
use Rattle.logic.specs.Tests.{So}
use Rattle.logic.specs.Sums.{count_below}
use Rattle.logic.specs.Sets.{has, set_of}
use Rattle.counting.specs.Trees.{Side, lower, upper, Meets, Limit, limit, Tree, total, TreeCloses, tree_test}

-- a row's side and bound: all that the arithmetic knows of it
pub record Bound : Type 0 where
  pub side : Side
  pub value : ℕ

abbrev pub bound_at : List Bound → ℕ → Bound
bound_at rows i = get_or rows i (record { side = lower; value = 0 })

-- every row is met by its total
abbrev pub MeetAll : List Bound → (ℕ → ℕ) → Type 0
MeetAll rows t = (i : ℕ) → i < length rows → Meets (bound_at rows i).side (bound_at rows i).value (t i)

-- the sizes x of the open cells solve the rows
abbrev pub Solves : List Bound → (ℕ → Bool) → (ℕ → ℕ) → Type 0
Solves rows open? x = MeetAll rows (λ i. total (2 ^ length rows) open? x (λ c. has c i))

-- finitely many fillers, told apart only by the rows they count in; none is in a shut cell, and together they meet the rows
pub record Fillers (rows : List Bound) (open? : ℕ → Bool) : Type 0 where
  pub count : ℕ
  pub counts : ℕ → ℕ → Bool
  pub outside : (y : ℕ) → y < count → 0 < set_of (length rows) (counts y) → So (open? (set_of (length rows) (counts y)))
  pub meets : MeetAll rows (λ i. count_below count (λ y. counts y i))

-- the rows as limits: row i counts the cells with bit i
abbrev pub limits_from : ℕ → List Bound → List Limit
limits_from i [] = []
limits_from i (r ∷ rows) = limit r.side r.value (λ c. has c i) ∷ limits_from (suc i) rows

abbrev pub limits : List Bound → List Limit
limits rows = limits_from 0 rows

-- a tree that closes the rows over the open cells
abbrev pub Closed : List Bound → (ℕ → Bool) → Tree → Type 0
Closed rows open? t = TreeCloses (2 ^ length rows) open? (limits rows) t

-- the same as a test, with a limit on the values of splits
abbrev pub closed_test : List Bound → (ℕ → Bool) → (ℕ → Bool) → Tree → Bool
closed_test rows open? fits t = tree_test (2 ^ length rows) open? fits (limits rows) t

-- the lower bounds, added up
unfoldable pub lowers : List Bound → ℕ
lowers [] = 0
lowers (r ∷ rows) = lower_part r.side r.value + lowers rows
  where
    lower_part : Side → ℕ → ℕ
    lower_part lower b = b
    lower_part upper b = 0
