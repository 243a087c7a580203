-- Lifted evidence within the limits as bytes: that the bytes are that evidence, and that no other bytes are.
use Rattle.std.specs.Prelude.{ℕ, ◌+◌, ◌*◌, ◌≤◌, ◌<◌, ◌≡◌, true, get_or, drop}
use Rattle.std.proofs.Common.{sym, ◌∙◌, subst, arith}
use Rattle.std.proofs.Math.Path.{ap, ap₂}
use mathlib.Core.List.{List, [], map}
use Rattle.std.proofs.Math.Option.{some}
use Rattle.std.proofs.Math.ListN.{length, length-append, length-map}
use Rattle.logic.specs.Lists.{at_member}
use Rattle.parts.specs.Numbers.{byte_at}
use Rattle.description.specs.Literals.{pos}
use Rattle.labels.specs.Labels.{label_bytes, bytes_some}
use Rattle.graph.specs.Graphs.{Graph}
use Rattle.refutation.specs.Records.{contradiction, Record, Refutation}
use Rattle.evidence.specs.declared.Layout.{Layout}
use Rattle.evidence.specs.Evidence.{label_size, most_edges, HeadOk, record_count, record_at, node_in, graph_in, graph_size, NodeForm}
use Rattle.list_form.specs.ListForm.{step_in}
use Rattle.list_form.specs.FormLaws.{form_fine}
use Rattle.lists.specs.Lists.{step_from, step_behind, record_in, refutation_in, RecordForm}
use Rattle.laying.specs.Places.{before_between, each_map, each_value, Small, small_append, small_at, small_drop}
use Rattle.laying.specs.Numbers.{label}
use Rattle.laying.proofs.Numbers.{label_bytes_lem, label_back, label_behind, label_again}
use Rattle.encoding.specs.Bundles.{bundle, Fits, records_in}
use Rattle.encoding.proofs.Bundles.{bundle_kind, bundle_head, bundle_small, each_record, records_back, part_small, records_again, bundle_again, bundle_fits}
use Rattle.encoding.specs.Nodes.{encode_node, NodeWidth}
use Rattle.encoding.proofs.Nodes.{node_back, node_length, node_form_lem, node_small, node_again, node_width}
use Rattle.encoding.specs.Steps.{encode_step}
use Rattle.encoding.proofs.Steps.{step_back, step_small, StepAgain, step_again}
use Rattle.encoding.specs.Encoding.{encode_graph, GraphStored, encode_record, encode_refutation, RecordWidth, RefutationStored}

module _ (f : Layout) (G : Graph) (w : GraphStored f G) where
  abbrev nodes : List (List ℕ)
  nodes = map (encode_node f) G

  -- no record is longer
  longest : ℕ
  longest = label_bytes true + 5 * most_edges

  short : (i : ℕ) → i < length nodes → length (get_or nodes i []) ≤ longest
  unfolding label_bytes longest
  short i h = each_map (λ r. length r ≤ longest) (encode_node f) G
      (λ N m. omega (arith, node_length f N, bytes_some f.wide, (w.nodes_fit N m).few_edges)) _ (at_member nodes [] i h)

  -- so few and short records have room in their pairs
  fits : Fits nodes
  unfolding label_bytes longest
  fits = record {
    some_record = omega (arith, w.some_node, length-map G (encode_node f));
    few_records = omega (arith, w.few_nodes, length-map G (encode_node f));
    starts = λ i h. omega (arith, w.few_nodes, length-map G (encode_node f), before_between 0 longest nodes [] (λ j l. omega (arith, short j l)) i (omega arith));
    lengths = λ i h. omega (arith, short i h);
  }

  -- it is read back
  pub graph_stored : HeadOk (encode_graph f G) × (byte_at (encode_graph f G) 0 ≡ 1)
      × ((x : ℕ) → x < record_count (encode_graph f G) → NodeForm f (length (record_at (encode_graph f G) x))) × (graph_in f (encode_graph f G) ≡ G)
  graph_stored = (
    bundle_head 1 nodes (omega arith) (omega arith) fits,
    bundle_kind 1 nodes,
    each_record 1 (encode_node f) G (λ r. NodeForm f (length r)) (λ N m. node_form_lem f N (w.nodes_fit N m)),
    records_back 1 (encode_node f) G (node_in f) (record { label = 0; edges = [] }) (λ N m. node_back f N),
  )

  -- and is bytes
  pub graph_bytes : (p : ℕ) → byte_at (encode_graph f G) p < 256
  graph_bytes = small_at (bundle_small 1 nodes (omega arith) fits (each_map Small (encode_node f) G (λ N m. node_small f N (w.nodes_fit N m))))

-- what bytes are read as is stored, and is written as they are
module _ (f : Layout) {s : List ℕ} (b : Small s) (head : HeadOk s) (forms : (x : ℕ) → x < record_count s → NodeForm f (length (record_at s x))) where
  pub graph_fits : GraphStored f (graph_in f s)
  graph_fits = record {
    some_node = omega (arith, head.1.0, graph_size f s);
    few_nodes = omega (arith, head.1.1.0, graph_size f s);
    nodes_fit = each_value (NodeWidth f) (record_count s) (λ x. node_in f (record_at s x)) (λ x h. node_width f (part_small b head x h) (forms x h));
  }

  pub graph_again : byte_at s 0 ≡ 1 → encode_graph f (graph_in f s) ≡ s
  graph_again kind = ap₂ bundle (sym kind) (records_again s (encode_node f) (node_in f) (λ x h. node_again f (part_small b head x h) (forms x h)))
      ∙ bundle_again b head

module _ (f : Layout) (R : Record) (w : RecordWidth f R) where
  step_there : step_behind f (encode_record f R) ≡ some R.step
  unfolding encode_record
  step_there = ap (step_in f.marks) (label_behind f.wide R.label (encode_step R.step))
      ∙ step_back f.marks R.step w.form_fits w.step_fits

  pub record_back : record_in f (encode_record f R) ≡ R
  unfolding encode_record
  record_back = ap₂ (λ L x. record { label = L; step = step_from x }) (label_back f.wide R.label (encode_step R.step)) step_there

  pub record_form_lem : RecordForm f (encode_record f R)
  unfolding encode_record
  record_form_lem = let L = label f.wide R.label in
      (omega (arith, length-append L (encode_step R.step), (label_bytes_lem f.wide).long R.label), (R.step, step_there))

  pub record_small : Small (encode_record f R)
  unfolding encode_record
  record_small = small_append (label f.wide R.label) ((label_bytes_lem f.wide).small R.label w.label_fits)
      (step_small f.marks R.step w.form_fits w.step_fits)

module _ (f : Layout) (C : Refutation) (w : RefutationStored f C) where
  abbrev records : List (List ℕ)
  records = map (encode_record f) C

  -- it is read back
  pub refutation_stored : HeadOk (encode_refutation f C) × (byte_at (encode_refutation f C) 0 ≡ 2)
      × ((x : ℕ) → x < record_count (encode_refutation f C) → RecordForm f (record_at (encode_refutation f C) x)) × (refutation_in f (encode_refutation f C) ≡ C)
  refutation_stored = (
    bundle_head 2 records (omega arith) (omega arith) w.pairs_fit,
    bundle_kind 2 records,
    each_record 2 (encode_record f) C (RecordForm f) (λ R m. record_form_lem f R (w.records_fit R m)),
    records_back 2 (encode_record f) C (record_in f) (record { label = 0; step = contradiction (pos 0) }) (λ R m. record_back f R (w.records_fit R m)),
  )

  -- and is bytes
  pub refutation_bytes : (p : ℕ) → byte_at (encode_refutation f C) p < 256
  refutation_bytes = small_at (bundle_small 2 records (omega arith) w.pairs_fit (each_map Small (encode_record f) C (λ R m. record_small f R (w.records_fit R m))))

-- what bytes are read as
module _ (f : Layout) {r : List ℕ} (b : Small r) (form : RecordForm f r) where
  step_inside : StepAgain f.marks (small_drop (label_size f) b) form.1.0
  step_inside = step_again f.marks (small_drop (label_size f) b) form.1.0 form.1.1

  record_again : encode_record f (record_in f r) ≡ r
  unfolding encode_record
  record_again = rw form.1.1 (label_again f.wide (encode_step form.1.0) b form.0 step_inside.same)

  record_width : RecordWidth f (record_in f r)
  record_width = rw form.1.1 (record {
    label_fits = (label_bytes_lem f.wide).fits 0 b;
    form_fits = form_fine f.marks (drop (label_size f) r) form.1.0 form.1.1;
    step_fits = step_inside.width;
  })

module _ (f : Layout) {s : List ℕ} (b : Small s) (head : HeadOk s) (forms : (x : ℕ) → x < record_count s → RecordForm f (record_at s x)) where
  all_again : map (encode_record f) (refutation_in f s) ≡ records_in s
  all_again = records_again s (encode_record f) (record_in f) (λ x h. record_again f (part_small b head x h) (forms x h))

  pub refutation_fits : RefutationStored f (refutation_in f s)
  refutation_fits = record {
    records_fit = each_value (RecordWidth f) (record_count s) (λ x. record_in f (record_at s x)) (λ x h. record_width f (part_small b head x h) (forms x h));
    pairs_fit = subst Fits (sym all_again) (bundle_fits b head);
  }

  pub refutation_again : byte_at s 0 ≡ 2 → encode_refutation f (refutation_in f s) ≡ s
  refutation_again kind = ap₂ bundle (sym kind) all_again ∙ bundle_again b head
