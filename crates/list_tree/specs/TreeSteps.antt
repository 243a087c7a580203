-- The tree of a counting step as the code walks it: the limits that it holds, and the node and the tree at a place.
use Rattle.std.specs.Prelude as Rust
use Rattle.std.specs.Prelude.{Some, None, ℕ, ◌+◌, ◌^◌, ◌≤◌, ◌≡◌, Bool, true, false, cond, ◌&&◌, List, [], ◌∷◌, ◌++◌, eqb, ltb, length}
use Rattle.std.proofs.Math.Option.{Option, none, some}
use Rattle.parts.specs.Numbers.{byte_at, num2}
use Rattle.counting.specs.Trees as Counting
use Rattle.counting.specs.Trees.{limit, live, leaf_test, tree_test}
use Rattle.list_form.specs.ListForm.{bytes_at, node_in, tree_in, and_then, given}
use Rattle.list_form.specs.declared.Node.{Node}
use Rattle.list_form.specs.declared.Node.TheVariants.{Leaf, Split}
use Rattle.list_tree.specs.declared.Fit.{Fit}
use Rattle.list_tree.specs.declared.Fit.TheVariants.{Closing, Splitting}
use Rattle.list_leaf.specs.declared.Limit.{Limit}
use Rattle.list_leaf.specs.Leaf.{limits_held}
use Rattle.rows.specs.declared.Row.{Row}
use Rattle.rows.specs.HeldRows.{side_of}
use Rattle.list_tree.specs.ListTree.{value_fits}

-- ---- limits as the code holds them
abbrev pub row_limit : Row → Limit
row_limit x = record { side = x.side; bound = x.bound; cell = 0 }

-- the limit that a half of a split is
abbrev pub meant : Limit → Counting.Limit
meant x = limit (side_of x.side) x.bound (eqb x.cell)

-- behind the first n limits of the array stands l
pub record PutBehind (way : List Limit) (n : ℕ) (l : Counting.Limit) (next : List Limit) : Type 0 where
  pub size : length next ≡ 14
  pub held : (k : ℕ) → k ≤ n → limits_held k next (n + 1) ≡ limits_held k way n ++ (l ∷ [])

-- ---- the walk
-- a split of cell c at v is of an open cell, and its value fits
abbrev pub split_test : ℕ → (ℕ → Bool) → ℕ → ℕ → Bool
split_test k open? c v = ltb c (2 ^ k) && (live open? c && value_fits v)

-- the node at a place, if it fits: a leaf that closes, or a split
abbrev pub fit : List ℕ → ℕ → (ℕ → Bool) → ℕ → List Counting.Limit → ℕ → Rust.Option Node → Rust.Option Fit
fit ds k open? n ls at (Some (Leaf end)) = cond (leaf_test (2 ^ k) open? ls (bytes_at (λ b. b) ds (at + 1) n)) (Some (Closing end)) None
fit ds k open? n ls at (Some Split) = cond (split_test k open? (byte_at ds (at + 1)) (num2 ds (at + 2))) (Some Splitting) None
fit ds k open? n ls at None = None

-- the paper's number of each case: a split that is off, or a leaf that is open (where no node stands at all, 10 has refused before)
abbrev pub fit_refusal : Rust.Option Fit → Option ℕ
fit_refusal (Some x) = none
fit_refusal None = some 19

abbrev pub is_fit : Rust.Option Fit → Bool
is_fit (Some x) = true
is_fit None = false

unfoldable pub fit_node : List ℕ → ℕ → (ℕ → Bool) → ℕ → List Counting.Limit → ℕ → Rust.Option Fit
fit_node ds k open? n ls at = fit ds k open? n ls at (node_in ds n at)

-- the end of the tree at a place, if it has its form and closes under the limits ls, which are n
unfoldable pub closed_in : List ℕ → ℕ → (ℕ → Bool) → ℕ → ℕ → List Counting.Limit → ℕ → Option ℕ
closed_in ds k open? left n ls at = and_then (tree_in ds left n at) (λ t. given (tree_test (2 ^ k) open? value_fits ls t.tree) t.end)

-- the end as the code tells it
abbrev pub end_of : Option ℕ → Rust.Option ℕ
end_of none = None
end_of (some end) = Some end
