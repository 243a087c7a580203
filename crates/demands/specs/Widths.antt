-- For belief: the two widths of what is stored (02, job 2). For a description of at most 32 entries each definition is what it was before
-- there were two, written out here; for one of more, labels take 16 bytes and name masks 8; and a graph with labels of the other width is
-- refused with 10 at record 0.
use Rattle.std.specs.Prelude.{ℕ, ◌+◌, ◌-◌, ◌*◌, ◌/◌, ◌%◌, ◌≤◌, ◌<◌, ◌≡◌, true, false, ◌&&◌, eqb, leb, ltb, length, take, drop}
use Rattle.std.proofs.Math.Path.{refl, ap}
use Rattle.std.proofs.Common.{sym, ◌∙◌, lt-ltb, le-ltb}
use Rattle.std.proofs.Math.Bool.{cond}
use mathlib.Core.List.{List, [], ◌++◌, map, flatten}
use Rattle.std.proofs.Math.Option.{some}
use Rattle.logic.specs.Refusals.{Refusal, records_stop, records_start}
use Rattle.logic.specs.Bounded.{all_below}
use Rattle.logic.specs.Lists.{tabulate}
use Rattle.logic.specs.Sets.{has, narrow, within}
use Rattle.parts.specs.Numbers.{byte_at, num2}
use Rattle.parts.specs.Pairs.{offset_at, length_at, end_at}
use Rattle.labels.specs.Blocks.{block}
use Rattle.labels.specs.Labels.{label_bytes, name_bytes, num4, label_in, names_in}
use Rattle.description.specs.Literals.{Literal}
use Rattle.description.specs.Descriptions.{Description, wanted}
use Rattle.interpretation.specs.Meaning.{Interpretation}
use Rattle.graph.specs.Graphs.{Graph}
use Rattle.refutation.specs.Records.{Step, Refutation}
use Rattle.evidence.specs.Evidence.{layout_of, label_size, record_count, HeadOk, head↔, record_at, edges_in, label_of, edges_part, graph_in, most_edges, NodeForm, node_form_test}
use Rattle.evidence.proofs.OtherWidth.{other_width}
use Rattle.list_form.specs.ListForm.{step_in}
use Rattle.lists.specs.Lists.{step_from, refutation_in, RecordForm}
use Rattle.laying.specs.Numbers.{eight, label}
use Rattle.encoding.specs.Bundles.{bundle}
use Rattle.encoding.specs.Nodes.{encode_edge, encode_node}
use Rattle.encoding.specs.Steps.{encode_step}
use Rattle.encoding.specs.Encoding.{encode_graph, encode_record, encode_refutation}
use Rattle.lines.specs.Lines.{name_size, name_set, name_mask, byte_of, pair_byte, name_at, line_length, line_in, wide_names, line_test, line_byte, line_bytes}
use Rattle.intake.specs.Intake.{described, AcceptedBytes, accepted_bytes↔}
use Rattle.graph_check.specs.GraphEvidence.{graph_tests}
use Rattle.answers.specs.Answers.{REFUSED, answer}
use Rattle.verdict.specs.Verdict.{verdict}

-- ---- which width
module _ (D : Description) where
  pub narrow_when : D.entries ≤ 32 → layout_of D ≡ record { wide = false; marks = D.fourth }
  narrow_when few = rw (le-ltb 32 D.entries few) refl

  pub wide_when : 32 < D.entries → layout_of D ≡ record { wide = true; marks = D.fourth }
  wide_when many = rw (lt-ltb 32 D.entries many) refl

  pub label_bytes_lem : (D.entries ≤ 32 → label_size (layout_of D) ≡ 8) × (32 < D.entries → label_size (layout_of D) ≡ 16)
  unfolding label_bytes
  label_bytes_lem = (λ few. rw (le-ltb 32 D.entries few) refl, λ many. rw (lt-ltb 32 D.entries many) refl)

  pub name_bytes_lem : (D.entries ≤ 32 → name_size D ≡ 4) × (32 < D.entries → name_size D ≡ 8)
  unfolding name_bytes
  name_bytes_lem = (λ few. rw (le-ltb 32 D.entries few) refl, λ many. rw (lt-ltb 32 D.entries many) refl)

-- ---- as before
-- a label was a number of eight bytes
abbrev label8 : List ℕ → ℕ → ℕ
label8 s at = block 32 (num4 s at) (num4 s (at + 4))

module _ (D : Description) (few : D.entries ≤ 32) where
  module _ (s : List ℕ) where
    pub label_before : (i : ℕ) → label_of (layout_of D) s i ≡ label8 s (offset_at s 2 i)
    unfolding label_of label_in
    label_before i = rw (le-ltb 32 D.entries few) refl

    pub edges_before : (i : ℕ) → edges_part (layout_of D) s i
        ≡ cond (leb 8 (length_at s 2 i) && leb (end_at s 2 i) (length s)) (take (length_at s 2 i - 8) (drop (offset_at s 2 i + 8) s)) []
    unfolding edges_part label_bytes
    edges_before i = rw (le-ltb 32 D.entries few) refl

    pub graph_before : graph_in (layout_of D) s ≡ tabulate (record_count s) (λ i. let r = record_at s i in record { label = label8 r 0; edges = edges_in (drop 8 r) })
    unfolding label_bytes label_in
    graph_before = rw (le-ltb 32 D.entries few) refl

    pub refutation_before : refutation_in (layout_of D) s
        ≡ tabulate (record_count s) (λ i. let r = record_at s i in record { label = label8 r 0; step = step_from (step_in D.fourth (drop 8 r)) })
    unfolding label_bytes label_in
    refutation_before = rw (le-ltb 32 D.entries few) refl

  -- 10
  pub node_form_before : (n : ℕ) → NodeForm (layout_of D) n ≡ ((8 ≤ n) × (((n - 8) % 5 ≡ 0) × ((n - 8) / 5 ≤ most_edges)))
  unfolding label_bytes
  node_form_before n = rw (le-ltb 32 D.entries few) refl

  pub record_form_before : (r : List ℕ) → RecordForm (layout_of D) r ≡ ((8 ≤ length r) × ((x : Step) × (step_in D.fourth (drop 8 r) ≡ some x)))
  unfolding label_bytes
  record_form_before r = rw (le-ltb 32 D.entries few) refl

  -- evidence as bytes
  pub graph_bytes_before : (G : Graph) → encode_graph (layout_of D) G ≡ bundle 1 (map (λ N. eight N.label ++ flatten (map encode_edge N.edges)) G)
  unfolding encode_node label
  graph_bytes_before G = rw (narrow_when D few) refl

  pub refutation_bytes_before : (C : Refutation) → encode_refutation (layout_of D) C ≡ bundle 2 (map (λ R. eight R.label ++ encode_step R.step) C)
  unfolding encode_record label
  refutation_bytes_before C = rw (narrow_when D few) refl

  -- what bytes have room for: the bits of a label
  pub room_before : 8 * label_size (layout_of D) ≡ 64
  unfolding label_bytes
  room_before = rw (le-ltb 32 D.entries few) refl

  -- lines: which interpretation one is, its form (23), its length and its bytes
  pub line_before : (s : List ℕ) → line_in (wide_names D) s ≡ record {
    size = byte_at s 0;
    name = λ e x. has (num4 s (1 + 4 * x)) e;
    role = λ r x y. has (num2 s (1 + 4 * byte_at s 0 + 2 * (x * byte_at s 0 + y))) r;
  }
  unfolding name_bytes names_in
  line_before s = rw (le-ltb 32 D.entries few) refl

  pub line_form_before : (s : List ℕ) → let d = byte_at s 0 in line_test D s
      ≡ (leb 1 d && (leb d 64 && (eqb (length s) (1 + 4 * d + 2 * (d * d)) && (all_below d (λ x. within (num4 s (1 + 4 * x)) (name_set D))
      && all_below d (λ x. all_below d (λ y. narrow (num2 s (1 + 4 * d + 2 * (x * d + y))) D.roles))))))
  unfolding line_test name_bytes names_in
  line_form_before s = rw (le-ltb 32 D.entries few) refl

  pub line_length_before : (d : ℕ) → line_length (name_size D) d ≡ 1 + 4 * d + 2 * (d * d)
  unfolding name_bytes
  line_length_before d = rw (le-ltb 32 D.entries few) refl

  pub line_bytes_before : (I : Interpretation) → let d = I.size in line_bytes D I ≡ tabulate (1 + 4 * d + 2 * (d * d)) (λ p. cond (eqb p 0) d
      (cond (ltb p (1 + 4 * d)) (byte_of 4 (name_mask D I ((p - 1) / 4)) ((p - 1) % 4)) (pair_byte D I (p - (1 + 4 * d)))))
  unfolding line_byte name_bytes
  line_bytes_before I = ap (λ broad. let d = I.size in let k = name_bytes broad in tabulate (line_length k d) (λ p. cond (eqb p 0) d
      (cond (ltb p (name_at k d)) (byte_of k (name_mask D I ((p - 1) / k)) ((p - 1) % k)) (pair_byte D I (p - name_at k d)))))
      (le-ltb 32 D.entries few)

-- ---- the boundary: a graph whose first record has a label of the other width, and whole edges behind it, whatever literals are wanted
abbrev ten : Refusal
ten = record { number = 10; place = 0 }

module _ (D : Description) (W : List Literal) (s : List ℕ) (head : HeadOk s) (is_graph : byte_at s 0 ≡ 1) where
  form_refused : node_form_test (layout_of D) (length (record_at s 0)) ≡ false → graph_tests D W s ≡ some ten
  unfolding graph_tests
  form_refused e = rw (is_graph, (head↔ s).1 head) (sym (records_start _ _ (record_count s)) ∙ records_stop _ _ (record_count s) 0 ten head.1.0 (rw e refl))

  -- of 8 bytes under a table of more than 32 entries
  pub narrow_graph : 32 < D.entries → (m : ℕ) → length (record_at s 0) ≡ 8 + 5 * m → graph_tests D W s ≡ some ten
  narrow_graph many m e = form_refused (ap (node_form_test (layout_of D)) e ∙ ap (λ f. node_form_test f (8 + 5 * m)) (wide_when D many) ∙ (other_width D.fourth m).0)

  -- of 16 under one of at most 32
  pub wide_graph : D.entries ≤ 32 → (m : ℕ) → length (record_at s 0) ≡ 16 + 5 * m → graph_tests D W s ≡ some ten
  wide_graph few m e = form_refused (ap (node_form_test (layout_of D)) e ∙ ap (λ f. node_form_test f (16 + 5 * m)) (narrow_when D few) ∙ (other_width D.fourth m).1)

-- so is the verdict on it, for an accepted description
module _ (d s : List ℕ) (accepted : AcceptedBytes d) (head : HeadOk s) (is_graph : byte_at s 0 ≡ 1) where
  told : graph_tests (described d) (wanted (described d)) s ≡ some ten → verdict d s ≡ answer REFUSED (some ten)
  unfolding verdict
  told e = rw ((accepted_bytes↔ d).1 accepted, is_graph, e) refl

  pub narrow_graph_refused : 32 < (described d).entries → (m : ℕ) → length (record_at s 0) ≡ 8 + 5 * m → verdict d s ≡ answer REFUSED (some ten)
  narrow_graph_refused many m e = told (narrow_graph (described d) (wanted (described d)) s head is_graph many m e)

  pub wide_graph_refused : (described d).entries ≤ 32 → (m : ℕ) → length (record_at s 0) ≡ 16 + 5 * m → verdict d s ≡ answer REFUSED (some ten)
  wide_graph_refused few m e = told (wide_graph (described d) (wanted (described d)) s head is_graph few m e)
