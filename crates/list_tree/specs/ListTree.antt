-- The tree of a counting step on bytes: refusal 19 (01, "The counting step"; FORMAT 6).
use Rattle.std.specs.Prelude.{ℕ, ◌+◌, ◌-◌, ◌^◌, Bool, false, cond, List, leb}
use Rattle.std.proofs.Math.Option.{Option, none, some}
use Rattle.counting.specs.Rows.{Bound, closed_test}
use Rattle.refutation.specs.RecordTests.{stored_refutation}
use Rattle.list_form.specs.ListForm.{Placed, bytes_at, tree_in, tree_at, most_depth}
use Rattle.list_leaf.specs.Leaf.{open_byte}

-- the open cells of the step: their bytes are 255, with a mark for barred cells and without
abbrev pub open_in : List ℕ → ℕ → ℕ → Bool
open_in ds k = open_byte (bytes_at (λ b. b) ds (2 + k) (2 ^ k - 1))

-- a split's value is at most 1,000
abbrev pub value_fits : ℕ → Bool
value_fits = stored_refutation.value

-- a tree, if there is one, closes the rows over the open cells
abbrev pub closing : List Bound → (ℕ → Bool) → Option Placed → Bool
closing rows open? none = false
closing rows open? (some t) = closed_test rows open? value_fits t.tree

-- 19, of a step with at most 6 rows
unfoldable pub closing_in : List Bound → List ℕ → ℕ → Bool
closing_in rows ds k = cond (leb k 6) (closing rows (open_in ds k) (tree_in ds most_depth k (tree_at k))) false
