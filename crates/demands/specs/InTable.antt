-- What demand 3 lifts frees nothing else (01, "Evidence", last paragraph): in lifted evidence that keeps the rules
-- every label, mask, literal, entry, rule, target and cite is one that the description or the evidence has.
use Rattle.std.specs.Prelude.{ℕ, ◌-◌, ◌*◌, ◌^◌, ◌<◌, length}
use Rattle.logic.specs.Lists.{◌∈◌}
use Rattle.description.specs.Literals.{Literal, code}
use Rattle.description.specs.Descriptions.{Description}
use Rattle.graph.specs.Graphs.{Edge, Node, node_at}
use Rattle.refutation.specs.Records.{cited, Step, contradiction, conjunction, disjunction, by_rule, case_split, counting}
use Rattle.refutation.specs.Records.{Record, record_at}
use Rattle.evidence.specs.declared.Layout.{Layout}
use Rattle.evidence.specs.Evidence.{label_size}
use Rattle.demands.specs.Lifted.{Evidence, sample, refutation}

-- a node of a graph of that size: a set of the table's literals, and edges along the table's roles to nodes of the graph
pub record NodeInTable (D : Description) (size : ℕ) (N : Node) : Type 0 where
  pub label_inside : N.label < 2 ^ (2 * D.entries)
  pub masks_in : (E : Edge) → E ∈ N.edges → E.mask < 2 ^ D.roles
  pub targets_in : (E : Edge) → E ∈ N.edges → E.target < size

-- the step of record i names literals, entries and rules of the table, and earlier records
abbrev pub StepInTable : Description → ℕ → Step → Type 0
StepInTable D i (contradiction l) = code l < 2 * D.entries
StepInTable D i (conjunction e c) = (e < D.entries) × (c < i)
StepInTable D i (disjunction e c d) = (e < D.entries) × (c < i) × (d < i)
StepInTable D i (by_rule q c) = (q < D.rules) × (c < i)
StepInTable D i (case_split e c d) = (e < D.entries) × (c < i) × (d < i)
StepInTable D i (counting K) = ((l : Literal) → l ∈ K.rows → code l < 2 * D.entries) × ((j : ℕ) → cited j ∈ K.cells → j < i)

pub record RecordInTable (D : Description) (i : ℕ) (R : Record) : Type 0 where
  pub label_inside : R.label < 2 ^ (2 * D.entries)
  pub step_inside : StepInTable D i R.step

abbrev pub EvidenceInTable : Description → Evidence → Type 0
EvidenceInTable D (sample G) = (x : ℕ) → x < length G → NodeInTable D (length G) (node_at G x)
EvidenceInTable D (refutation C) = (i : ℕ) → i < length C → RecordInTable D i (record_at C i)

-- labels that have room in the bytes of one, and masks that have room in 2
abbrev pub Fitting : Layout → Evidence → Type 0
Fitting f (sample G) = (x : ℕ) → x < length G → ((node_at G x).label < 2 ^ (8 * label_size f)) × ((E : Edge) → E ∈ (node_at G x).edges → E.mask < 2 ^ 16)
Fitting f (refutation C) = (i : ℕ) → i < length C → (record_at C i).label < 2 ^ (8 * label_size f)
