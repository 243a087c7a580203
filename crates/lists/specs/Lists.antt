-- The refutation that evidence is: its records, each a label and a step (01, "Evidence", Closing list; FORMAT 4, 5).
use Rattle.std.specs.Prelude.{ℕ, ◌≤◌, ◌≡◌, Bool, ◌&&◌, List, leb, length, drop}
use Rattle.std.proofs.Math.Option.{Option, none, some}
use Rattle.logic.specs.Lists.{tabulate}
use Rattle.labels.specs.Labels.{label_in}
use Rattle.evidence.specs.declared.Layout.{Layout}
use Rattle.evidence.specs.Evidence.{record_count, label_size}
use Rattle.evidence.specs.Evidence as Bytes
use Rattle.description.specs.Literals.{pos}
use Rattle.refutation.specs.Records.{Step, contradiction, Record, Refutation, record_at}
use Rattle.list_form.specs.ListForm.{step_in}
use Rattle.list_form.specs.FormSteps.{formed}

-- the step, where there is one; bytes whose form is off are refused before it is asked for
abbrev pub step_from : Option Step → Step
step_from none = contradiction (pos 0)
step_from (some x) = x

-- the step behind a record's label
abbrev pub step_behind : Layout → List ℕ → Option Step
step_behind f r = step_in f.marks (drop (label_size f) r)

-- a label, then a step
abbrev pub record_in : Layout → List ℕ → Record
record_in f r = record { label = label_in f.wide r 0; step = step_from (step_behind f r) }

abbrev pub refutation_in : Layout → List ℕ → Refutation
refutation_in f s = tabulate (record_count s) (λ i. record_in f (Bytes.record_at s i))

-- ---- 10, of a list's record: a label, and behind it the bytes of a step
abbrev pub RecordForm : Layout → List ℕ → Type 0
RecordForm f r = (label_size f ≤ length r) × ((x : Step) × (step_behind f r ≡ some x))

unfoldable pub record_form_test : Layout → List ℕ → Bool
record_form_test f r = leb (label_size f) (length r) && formed (step_behind f r)
