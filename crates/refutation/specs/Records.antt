-- Refutations (01: closing lists) and their rules, numbers 10 and 16 to 20 (01, "Evidence", Closing list; FORMAT 5).
-- The rules know no limits; those of stored refutations stand at the end, apart.
use Rattle.std.specs.Prelude.{ℕ, zero, suc, ◌+◌, ◌-◌, ◌^◌, ◌≤◌, ◌<◌, ◌≡◌, ◌⊎◌, Bool, true, false, ◌||◌, List, [], ◌∷◌, length, get_or}
use Rattle.std.proofs.Math.Option.{Option, none, some}
use Rattle.logic.specs.Tests.{So}
use Rattle.logic.specs.Lists.{◌∈◌}
use Rattle.counting.specs.Trees.{Tree, formed, depth, ValuesFit}
use Rattle.counting.specs.Rows.{Closed}
use Rattle.description.specs.Literals.{Literal, pos, neg, opposite, code, entry_of, same_literal, Label, members, plus, Within, InTable}
use Rattle.description.specs.Descriptions.{both, Description, Compatible}
use Rattle.refutation.specs.Cells.{Row, row_of, is_row, rows_of, bounds, cell_role, Known}

-- a cell is open, or a record shows it empty, or its roles do
pub data Cell : Type 0 where
  unshown : Cell
  cited : ℕ → Cell
  barred : Cell

-- step 6: the row literals, a cell for each number below 2^k but 0, the tree
pub record Counting : Type 0 where
  pub rows : List Literal
  pub cells : List Cell
  pub tree : Tree

-- steps 1 to 6; e is an entry, q a rule, c and d are records cited
pub data Step : Type 0 where
  contradiction : Literal → Step
  conjunction : (e c : ℕ) → Step
  disjunction : (e c d : ℕ) → Step
  by_rule : (q c : ℕ) → Step
  case_split : (e c d : ℕ) → Step
  counting : Counting → Step

abbrev pub as_counting : Step → Option Counting
as_counting (contradiction l) = none
as_counting (conjunction e c) = none
as_counting (disjunction e c d) = none
as_counting (by_rule q c) = none
as_counting (case_split e c d) = none
as_counting (counting K) = some K

-- what is asked of a counting step alone
abbrev pub WhenCounting : (Counting → Type 0) → Option Counting → Type 0
WhenCounting P none = Unit {0}
WhenCounting P (some K) = P K

-- a record claims its label of no element of any model; bit l of the label is literal l
pub record Record : Type 0 where
  pub label : ℕ
  pub step : Step

abbrev pub Refutation : Type 0
Refutation = List Record

abbrev pub record_at : Refutation → ℕ → Record
record_at C i = get_or C i (record { label = 0; step = contradiction (pos 0) })

abbrev pub number_at : Refutation → ℕ → ℕ
number_at C i = (record_at C i).label

-- cells run from 1 up
abbrev pub cell_at : List Cell → ℕ → Cell
cell_at cells c = get_or cells (c - 1) unshown

abbrev pub is_open : Cell → Bool
is_open unshown = true
is_open (cited j) = false
is_open barred = false

abbrev pub open_at : List Cell → ℕ → Bool
open_at cells c = is_open (cell_at cells c)

abbrev pub literal_at : List Literal → ℕ → Literal
literal_at lits j = get_or lits j (pos 0)

-- 10: a counting step has the form that its number k of rows gives
abbrev pub FormOk : Counting → Type 0
FormOk K = (1 ≤ length K.rows) × ((suc (length K.cells) ≡ 2 ^ length K.rows) × So (formed (length K.rows) K.tree))

abbrev pub Formed : Step → Type 0
Formed s = WhenCounting FormOk (as_counting s)

-- l is in L, or is literal 0
abbrev pub in_label : Label → Literal → Bool
in_label L l = L l || same_literal l (pos 0)

-- the record i, with label L, where record j has the label number num j
module _ (D : Description) (num : ℕ → ℕ) (i : ℕ) (L : Label) where
  -- 16: what a step names exists: literals and entries in the table, rules in the query, records before this one
  abbrev pub CiteOk : Step → Type 0
  CiteOk (contradiction l) = entry_of l < D.entries
  CiteOk (conjunction e c) = (e < D.entries) × (c < i)
  CiteOk (disjunction e c d) = (e < D.entries) × ((c < i) × (d < i))
  CiteOk (by_rule q c) = (q < D.rules) × (c < i)
  CiteOk (case_split e c d) = (e < D.entries) × ((c < i) × (d < i))
  CiteOk (counting K) = ((l : Literal) → l ∈ K.rows → entry_of l < D.entries)
      × ((c : ℕ) → c < 2 ^ length K.rows → 0 < c → (j : ℕ) → cell_at K.cells c ≡ cited j → j < i)

  -- the label of record c lies within M
  abbrev pub Cites : ℕ → Label → Type 0
  Cites c M = Within (members (num c)) M

  -- 17: L follows by the step from the labels cited. 1: L contradicts itself. 2, 3: by a "both" of L, or one denied in L, from what it brings.
  -- 4: from a rule. 5: from both cases of an entry. 6: the row literals are literals of L that give rows, in rising order
  abbrev pub StepOk : Step → Type 0
  StepOk (contradiction l) = So (in_label L l) × So (in_label L (opposite l))
  StepOk (conjunction e c) = So (L (pos e)) × ((a : Literal) × (b : Literal) × (D.entry e ≡ both a b) × Cites c (plus (plus L a) b))
  StepOk (disjunction e c d) = So (L (neg e))
      × ((a : Literal) × (b : Literal) × (D.entry e ≡ both a b) × (Cites c (plus L (opposite a)) × Cites d (plus L (opposite b))))
  StepOk (by_rule q c) = Cites c (plus L (D.rule q))
  StepOk (case_split e c d) = Cites c (plus L (pos e)) × Cites d (plus L (neg e))
  StepOk (counting K) = ((l : Literal) → l ∈ K.rows → So (L l) × So (is_row (row_of D l)))
      × ((j : ℕ) → j < length K.rows → suc j < length K.rows → code (literal_at K.rows j) < code (literal_at K.rows (suc j)))

  -- 18, of cell c: it is marked as barred exactly if its roles cannot be those of one pair; a record that shows another empty has a label
  -- that all its fillers would have
  abbrev pub CellFits : List Row → ℕ → Cell → Type 0
  CellFits rows c unshown = Compatible D (cell_role D rows c)
  CellFits rows c (cited j) = Compatible D (cell_role D rows c) × ((l : Literal) → So (members (num j) l) → Known D L rows c l)
  CellFits rows c barred = Compatible D (cell_role D rows c) → ⊥

  abbrev pub CellOk : Step → Type 0
  CellOk s = WhenCounting (λ K. (c : ℕ) → c < 2 ^ length K.rows → 0 < c → CellFits (rows_of D K.rows) c (cell_at K.cells c)) (as_counting s)

  -- 19: the tree closes the rows over the open cells
  abbrev pub TreeOk : Step → Type 0
  TreeOk s = WhenCounting (λ K. Closed (bounds (rows_of D K.rows)) (open_at K.cells) K.tree) (as_counting s)

  pub record RecordOk (s : Step) : Type 0 where
    -- 16 too, of the own label
    pub inside_table : InTable D.entries L
    pub cite_ok : CiteOk s
    pub step_holds : StepOk s
    pub cell_ok : CellOk s
    pub tree_ok : TreeOk s

-- every record keeps 10 and 16 to 19, so no element of a model has its label
pub record Valid (D : Description) (C : Refutation) : Type 0 where
  pub forms : (i : ℕ) → i < length C → Formed (record_at C i).step
  pub records : (i : ℕ) → i < length C → RecordOk D (number_at C) i (members (number_at C i)) (record_at C i).step

-- 20: a label with nothing but literal 0 and what is wanted
abbrev pub EndOk : List Literal → ℕ → Type 0
EndOk W N = (l : Literal) → So (members N l) → (pos 0 ≡ l) ⊎ (l ∈ W)

-- the refutation closes: it shows that no model has an element with all of W
pub record Closes (D : Description) (W : List Literal) (C : Refutation) : Type 0 where
  pub some_record : 1 ≤ length C
  pub valid : Valid D C
  pub end : EndOk W (number_at C (length C - 1))

-- ---- limits on stored refutations, as tests of the number of rows, of a tree's depth and of a split's value
pub record RefutationLimits : Type 0 where
  pub rows : ℕ → Bool
  pub depth : ℕ → Bool
  pub value : ℕ → Bool

-- what of them belongs to 10, and what to 19
abbrev pub FormFits : RefutationLimits → Counting → Type 0
FormFits lim K = So (lim.rows (length K.rows)) × So (lim.depth (depth K.tree))

abbrev pub StepValuesFit : (ℕ → Bool) → Step → Type 0
StepValuesFit fits s = WhenCounting (λ K. ValuesFit fits K.tree) (as_counting s)

pub record RefutationFits (lim : RefutationLimits) (C : Refutation) : Type 0 where
  pub forms_fit : (i : ℕ) → i < length C → WhenCounting (FormFits lim) (as_counting (record_at C i).step)
  pub values_fit : (i : ℕ) → i < length C → StepValuesFit lim.value (record_at C i).step
