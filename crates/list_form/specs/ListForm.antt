-- A refutation's record behind its label: the step that the bytes are, and their form, refusal 10 (01, "Evidence", Closing list, and "The counting step"; FORMAT 5, 6).
use Rattle.std.specs.Prelude as Rust
use Rattle.std.specs.Prelude.{Some, None, ℕ, zero, suc, ◌+◌, ◌-◌, ◌^◌, Bool, true, false, cond, ◌&&◌, ◌||◌, List, eqb, leb, ltb, length}
use Rattle.std.proofs.Math.Option.{Option, none, some}
use Rattle.logic.specs.Lists.{tabulate}
use Rattle.parts.specs.Numbers.{byte_at, num2}
use Rattle.counting.specs.Trees.{Tree, leaf, split}
use Rattle.description.specs.Literals.{literal}
use Rattle.list_form.specs.declared.Node.{Node}
use Rattle.list_form.specs.declared.Node.TheVariants.{Leaf, Split}
use Rattle.refutation.specs.Records.{Cell, unshown, cited, barred, Step, contradiction, conjunction, disjunction, by_rule, case_split, counting}

-- what follows, where there is something
abbrev pub and_then : {A B : Type 0} → Option A → (A → Option B) → Option B
and_then none f = none
and_then (some x) f = f x

abbrev pub given : {A : Type 0} → Bool → A → Option A
given true x = some x
given false x = none

-- the numbers of n bytes at a place, each read by f
abbrev pub bytes_at : {A : Type 0} → (ℕ → A) → List ℕ → ℕ → ℕ → List A
bytes_at f ds at n = tabulate n (λ i. f (byte_at ds (at + i)))

-- ---- the tree, in preorder
pub record Placed : Type 0 where
  pub tree : Tree
  pub end : ℕ

-- what stands at a place: a leaf, 0 and then a multiplier for each of `limits` bounds on its way; a split, 1, a cell and a value; or neither
unfoldable pub node_in : List ℕ → ℕ → ℕ → Rust.Option Node
node_in ds limits at = cond (ltb at (length ds) && eqb (byte_at ds at) 0) (cond (leb (at + 1 + limits) (length ds)) (Some (Leaf (at + 1 + limits))) None)
    (cond (leb (at + 4) (length ds) && eqb (byte_at ds at) 1) (Some Split) None)

-- the paper's number of each case: where no node stands, the form is off
abbrev pub node_refusal : Rust.Option Node → Option ℕ
node_refusal (Some (Leaf end)) = none
node_refusal (Some Split) = none
node_refusal None = some 10

abbrev pub is_node : Rust.Option Node → Bool
is_node (Some (Leaf end)) = true
is_node (Some Split) = true
is_node None = false

abbrev pub by_node : {A : Type 0} → (ℕ → Option A) → Option A → Rust.Option Node → Option A
by_node f g (Some (Leaf end)) = f end
by_node f g (Some Split) = g
by_node f g None = none

abbrev pub leaf_in : List ℕ → ℕ → ℕ → ℕ → Option Placed
leaf_in ds limits at end = some (record { tree = leaf (bytes_at (λ b. b) ds (at + 1) limits); end = end })

-- the tree at a place, with at most `left` splits above a leaf, under so many bounds: a leaf, or a split and its two trees
unfoldable pub tree_in : List ℕ → ℕ → ℕ → ℕ → Option Placed
tree_in ds zero limits at = by_node (leaf_in ds limits at) none (node_in ds limits at)
tree_in ds (suc left) limits at = by_node (leaf_in ds limits at) (
    and_then (tree_in ds left (suc limits) (at + 4)) (λ l.
    and_then (tree_in ds left (suc limits) l.end) (λ r.
    some (record { tree = split (byte_at ds (at + 1)) (num2 ds (at + 2)) l.tree r.tree; end = r.end })))
    ) (node_in ds limits at)

-- ---- the step
abbrev pub most_depth : ℕ
most_depth = 8

-- 255 is the open mark; 254, where evidence has one (job 5), the mark of a cell that its roles bar; any other number cites a record
abbrev pub cell_of : Bool → ℕ → Cell
cell_of marks b = cond (eqb b 255) unshown (cond (marks && eqb b 254) barred (cited b))

-- whether the byte is a mark: it cites no record
abbrev pub is_mark : Bool → ℕ → Bool
is_mark marks b = eqb b 255 || (marks && eqb b 254)

-- where the tree of a counting step with k rows begins
abbrev pub tree_at : ℕ → ℕ
tree_at k = 2 + k + (2 ^ k - 1)

-- 6: k, k row literals, 2 ^ k - 1 cells, and a tree that ends with the record
unfoldable pub counting_in : Bool → List ℕ → ℕ → Option Step
counting_in marks ds k = cond (leb 1 k && (leb k 6 && leb (tree_at k) (length ds)))
    (and_then (tree_in ds most_depth k (tree_at k)) (λ t.
    given (eqb t.end (length ds)) (counting (record {
      rows = bytes_at literal ds 2 k;
      cells = bytes_at (cell_of marks) ds (2 + k) (2 ^ k - 1);
      tree = t.tree;
    })))) none

-- a step byte, then its data and nothing more
abbrev pub sized : List ℕ → ℕ → Step → Option Step
sized ds n s = given (eqb (length ds) n) s

unfoldable pub step_of : Bool → List ℕ → ℕ → Option Step
step_of marks ds zero = none
step_of marks ds (suc zero) = sized ds 2 (contradiction (literal (byte_at ds 1)))
step_of marks ds (suc (suc zero)) = sized ds 3 (conjunction (byte_at ds 1) (byte_at ds 2))
step_of marks ds (suc (suc (suc zero))) = sized ds 4 (disjunction (byte_at ds 1) (byte_at ds 2) (byte_at ds 3))
step_of marks ds (suc (suc (suc (suc zero)))) = sized ds 3 (by_rule (byte_at ds 1) (byte_at ds 2))
step_of marks ds (suc (suc (suc (suc (suc zero))))) = sized ds 4 (case_split (byte_at ds 1) (byte_at ds 2) (byte_at ds 3))
step_of marks ds (suc (suc (suc (suc (suc (suc zero)))))) = counting_in marks ds (byte_at ds 1)
step_of marks ds (suc (suc (suc (suc (suc (suc (suc k))))))) = none

-- the step that the bytes behind a label are, without or with a mark for barred cells; none if their form is off (10), which does not look at
-- cells
abbrev pub step_in : Bool → List ℕ → Option Step
step_in marks ds = step_of marks ds (byte_at ds 0)
