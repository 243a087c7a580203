-- A leaf over the limits that the code holds: the rows first, then the halves of the splits passed (01, "The counting step"; FORMAT 6).
use Rattle.std.specs.Prelude.{ℕ, ◌-◌, ◌^◌, Bool, false, cond, ◌&&◌, List, eqb, leb, ltb, length, get_or}
use Rattle.logic.specs.Lists.{tabulate}
use Rattle.logic.specs.Sets.{has}
use Rattle.counting.specs.Trees as Counting
use Rattle.counting.specs.Trees.{limit, live, leaf_test}
use Rattle.rows.specs.HeldRows.{side_of}
use Rattle.tables.specs.declared.Side.TheVariants.{Lower}
use Rattle.list_leaf.specs.declared.Limit.{Limit}

-- limit i of an array
abbrev pub no_limit : Limit
no_limit = record { side = Lower; bound = 0; cell = 0 }

abbrev pub limit_at : List Limit → ℕ → Limit
limit_at way i = get_or way i no_limit

-- the cells that limit i counts, under k rows: row i those with bit i, a half of a split its one cell
abbrev pub counts : ℕ → ℕ → ℕ → ℕ → Bool
counts k i cell = cond (ltb i k) (λ c. has c i) (eqb cell)

-- the first n limits of an array
abbrev pub limits_held : ℕ → List Limit → ℕ → List Counting.Limit
limits_held k way n = tabulate n (λ i. limit (side_of (limit_at way i).side) (limit_at way i).bound (counts k i (limit_at way i).cell))

-- cell c is open: its byte (cell 1 has the first) is 255, or it has none
abbrev pub open_byte : List ℕ → ℕ → Bool
open_byte cells c = eqb (get_or cells (c - 1) 255) 255

-- c is an open cell of k rows, at most 6
abbrev pub open_cell : ℕ → List ℕ → ℕ → Bool
open_cell k cells c = leb k 6 && (ltb c (2 ^ k) && live (open_byte cells) c)

-- at most 6 rows and, these among them, at most 14 limits
abbrev pub few_enough : ℕ → ℕ → Bool
few_enough k n = leb k 6 && (leb k n && leb n 14)

-- the test of a leaf: on its way stand a limit for each multiplier, the first k of them rows
abbrev pub leaf_under : ℕ → List ℕ → List Limit → List ℕ → Bool
leaf_under k cells way ms = leaf_test (2 ^ k) (open_byte cells) (limits_held k way (length ms)) ms

-- cell c is marked in a table
abbrev pub marked : List Bool → ℕ → Bool
marked marks c = get_or marks c false

-- the test of a leaf over the marked cells among 64
abbrev pub leaf_over : ℕ → List Bool → List Limit → List ℕ → Bool
leaf_over k marks way ms = leaf_test 64 (marked marks) (limits_held k way (length ms)) ms
