-- The bytes of a step behind its label (01, "Evidence", Closing list; FORMAT 5). That they are read back, and written again as they were
-- read, is in proofs/Steps.
use Prim.Native.Nat.{ℕ, ◌+◌, ◌<◌}
use Rattle.std.specs.Prelude.{Bool, cond, length}
use mathlib.Core.List.{List, [], ◌∷◌, ◌++◌, map}
use Rattle.logic.specs.Tests.{So}
use Rattle.logic.specs.Lists.{◌∈◌}
use Rattle.description.specs.Literals.{Literal, code}
use Rattle.refutation.specs.Records.{Cell, unshown, cited, barred, Counting, Step, contradiction, conjunction, disjunction, by_rule, case_split, counting}
use Rattle.encoding.specs.Trees.{encode_tree, TreeWidth}

-- the record that shows a cell empty, the open mark, or the mark of a barred cell
abbrev pub encode_cell : Cell → ℕ
encode_cell unshown = 255
encode_cell (cited j) = j
encode_cell barred = 254

-- a step byte, then literals, entries, rules and records, one byte each; in a counting step the number of rows, the rows, the cells and the tree
unfoldable pub encode_step : Step → List ℕ
encode_step (contradiction l) = 1 ∷ code l ∷ []
encode_step (conjunction e c) = 2 ∷ e ∷ c ∷ []
encode_step (disjunction e c d) = 3 ∷ e ∷ c ∷ d ∷ []
encode_step (by_rule q c) = 4 ∷ q ∷ c ∷ []
encode_step (case_split e c d) = 5 ∷ e ∷ c ∷ d ∷ []
encode_step (counting K) = 6 ∷ length K.rows ∷ (map code K.rows ++ (map encode_cell K.cells ++ encode_tree K.tree))

-- ---- the numbers that have one byte; no record cited in a cell shares a mark, and only where there is a mark for it is a cell barred
abbrev pub CellWidth : Bool → Cell → Type 0
CellWidth marks unshown = Unit {0}
CellWidth marks (cited j) = j < cond marks 254 255
CellWidth marks barred = So marks

pub record CountingWidth (marks : Bool) (K : Counting) : Type 0 where
  pub rows_fit : (l : Literal) → l ∈ K.rows → code l < 256
  pub cells_fit : (x : Cell) → x ∈ K.cells → CellWidth marks x
  pub tree_fits : TreeWidth K.tree

abbrev pub StepWidth : Bool → Step → Type 0
StepWidth marks (contradiction l) = code l < 256
StepWidth marks (conjunction e c) = (e < 256) × (c < 256)
StepWidth marks (disjunction e c d) = (e < 256) × (c < 256) × (d < 256)
StepWidth marks (by_rule q c) = (q < 256) × (c < 256)
StepWidth marks (case_split e c d) = (e < 256) × (c < 256) × (d < 256)
StepWidth marks (counting K) = CountingWidth marks K
