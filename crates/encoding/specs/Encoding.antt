-- Lifted evidence within the limits as bytes (01, "Evidence"; FORMAT 4, 5, 9). That the bytes are that evidence, and that no other bytes
-- are, is in proofs/Encoding.
use Rattle.std.specs.Prelude.{ℕ, ◌+◌, ◌*◌, ◌^◌, ◌≤◌, ◌<◌, ◌≡◌}
use mathlib.Core.List.{List, ◌++◌, map}
use Rattle.std.proofs.Math.Option.{none}
use Rattle.std.proofs.Math.ListN.{length}
use Rattle.logic.specs.Lists.{◌∈◌}
use Rattle.graph.specs.Graphs.{Node, Graph}
use Rattle.refutation.specs.Records.{Record, Refutation}
use Rattle.refutation.specs.RecordTests.{stored_refutation, record_form}
use Rattle.evidence.specs.declared.Layout.{Layout}
use Rattle.evidence.specs.Evidence.{label_size, most_records}
use Rattle.laying.specs.Numbers.{label}
use Rattle.encoding.specs.Bundles.{bundle, Fits}
use Rattle.encoding.specs.Nodes.{encode_node, NodeWidth}
use Rattle.encoding.specs.Steps.{encode_step, StepWidth}

-- ---- graphs: kind 1
abbrev pub encode_graph : Layout → Graph → List ℕ
encode_graph f G = bundle 1 (map (encode_node f) G)

-- a graph within the limits
pub record GraphStored (f : Layout) (G : Graph) : Type 0 where
  pub some_node : 1 ≤ length G
  pub few_nodes : length G ≤ most_records
  pub nodes_fit : (N : Node) → N ∈ G → NodeWidth f N

-- ---- refutations: kind 2
-- a label, then a step
unfoldable pub encode_record : Layout → Record → List ℕ
encode_record f R = label f.wide R.label ++ encode_step R.step

abbrev pub encode_refutation : Layout → Refutation → List ℕ
encode_refutation f C = bundle 2 (map (encode_record f) C)

pub record RecordWidth (f : Layout) (R : Record) : Type 0 where
  pub label_fits : R.label < 2 ^ (8 * label_size f)
  pub form_fits : record_form stored_refutation R.step ≡ none
  pub step_fits : StepWidth f.marks R.step

-- a refutation within the limits, those of pairs included
pub record RefutationStored (f : Layout) (C : Refutation) : Type 0 where
  pub records_fit : (R : Record) → R ∈ C → RecordWidth f R
  pub pairs_fit : Fits (map (encode_record f) C)
