-- Evidence in bytes: its head (refusal 9), its records, and the graph that they are (01, "Evidence"; FORMAT 4).
use Rattle.std.specs.Prelude.{ℕ, ◌+◌, ◌-◌, ◌*◌, ◌/◌, ◌%◌, ◌≤◌, ◌<◌, ◌↔◌, Bool, ◌&&◌, List, [], eqb, leb, take, drop, Some, None}
use Rattle.std.specs.Prelude as Code
use Rattle.std.proofs.Math.Path.{◌≡◌, refl}
use Rattle.std.proofs.Common.{◌∙◌, ap, length-drop}
use Rattle.std.proofs.Math.Logic.Iff
use Rattle.std.proofs.Math.Bool.{true, false, cond}
use Rattle.std.proofs.Math.Option.{Option, none, some}
use borrow.Author.Tests.{ne_eqb, lt-leb, le-leb}
use Rattle.std.proofs.Math.ListN.{length}
use native.Mathlib.Omega.{arith}
use Rattle.logic.specs.Tests.{So, reading}
use Rattle.logic.specs.Lists.{tabulate, length_tabulate, at_tabulate}
use Rattle.logic.specs.Refusals.{unless}
use Rattle.parts.specs.Numbers.{byte_at, num2}
use Rattle.parts.specs.Pairs.{offset_at, length_at, end_at, part_at, Fills, fills, fills↔}
use Rattle.labels.specs.Labels.{wide, label_bytes, label_in}
use Rattle.description.specs.Descriptions.{Description}
use Rattle.graph.specs.Graphs.{Edge, Node, Graph, node_at}
use Rattle.evidence.specs.declared.Layout.{Layout}
use Rattle.evidence.specs.declared.Head.{Head}
use Rattle.evidence.specs.declared.Head.TheVariants.{GraphOf, RefutationOf}

-- ---- 9: the head
-- the number of records; its pairs begin at 2
abbrev pub record_count : List ℕ → ℕ
record_count s = byte_at s 1

abbrev pub most_records : ℕ
most_records = 64

-- byte 0 is 1 or 2, there are 1 to 64 records, and their pairs fill the evidence from 2 + 4n
abbrev pub HeadOk : List ℕ → Type 0
HeadOk s = ((1 ≤ byte_at s 0) × (byte_at s 0 ≤ 2)) × ((1 ≤ record_count s) × ((record_count s ≤ most_records) × Fills s 2 (record_count s) (2 + 4 * record_count s)))

unfoldable pub head_test : List ℕ → Bool
head_test s = (leb 1 (byte_at s 0) && leb (byte_at s 0) 2) && (leb 1 (record_count s) && (leb (record_count s) most_records && fills s 2 (record_count s) (2 + 4 * record_count s)))

pub head↔ : (s : List ℕ) → So (head_test s) ↔ HeadOk s
unfolding head_test
head↔ s = simp (reading, fills↔) Iff.rfl

-- what the head says
unfoldable pub head_of : List ℕ → Code.Option Head
head_of s = cond (head_test s) (cond (eqb (byte_at s 0) 1) (Some (GraphOf (record_count s))) (Some (RefutationOf (record_count s)))) None

-- the paper's number of each case
abbrev pub head_refusal : Code.Option Head → Option ℕ
head_refusal (Some h) = none
head_refusal None = some 9

pub head_refused : (s : List ℕ) → head_refusal (head_of s) ≡ unless (head_test s) 9 none
unfolding head_of
head_refused s = go (head_test s) (eqb (byte_at s 0) 1)
  where
    go : (a b : Bool) → head_refusal (cond a (cond b (Some (GraphOf (record_count s))) (Some (RefutationOf (record_count s)))) None) ≡ unless a 9 none
    go true true = refl
    go true false = refl
    go false b = refl

-- ---- records, and the graph
-- how evidence is stored for a table of n entries (02, job 2), without or with a mark for cells that their roles bar (job 5), and for a
-- description
abbrev pub layout_for : ℕ → Bool → Layout
layout_for n marks = record { wide = wide n; marks = marks }

abbrev pub layout_of : Description → Layout
layout_of D = layout_for D.entries D.fourth

-- the bytes of a label
abbrev pub label_size : Layout → ℕ
label_size f = label_bytes f.wide

abbrev pub record_at : List ℕ → ℕ → List ℕ
record_at s i = part_at s 2 i

-- edge j of the bytes behind a label, and all of them
abbrev pub edge_in : List ℕ → ℕ → Edge
edge_in es j = record { target = byte_at es (5 * j); mask = num2 es (5 * j + 1); count = num2 es (5 * j + 3) }

abbrev pub edges_in : List ℕ → List Edge
edges_in es = tabulate (length es / 5) (edge_in es)

-- the label of record i, where its pair says
unfoldable pub label_of : Layout → List ℕ → ℕ → ℕ
label_of f s i = label_in f.wide s (offset_at s 2 i)

-- the bytes behind the label of record i, if the record has a label and lies in the evidence; else none
unfoldable pub edges_part : Layout → List ℕ → ℕ → List ℕ
edges_part f s i = cond (leb (label_size f) (length_at s 2 i) && leb (end_at s 2 i) (length s)) (take (length_at s 2 i - label_size f) (drop (offset_at s 2 i + label_size f) s)) []

-- a label, then edges
abbrev pub node_in : Layout → List ℕ → Node
node_in f r = record { label = label_in f.wide r 0; edges = edges_in (drop (label_size f) r) }

-- the graph that the records are
abbrev pub graph_in : Layout → List ℕ → Graph
graph_in f s = tabulate (record_count s) (λ i. node_in f (record_at s i))

pub graph_size : (f : Layout) (s : List ℕ) → length (graph_in f s) ≡ record_count s
graph_size f s = length_tabulate (record_count s) (λ i. node_in f (record_at s i))

pub node_at_lem : (f : Layout) (s : List ℕ) (x : ℕ) → x < record_count s → node_at (graph_in f s) x ≡ node_in f (record_at s x)
node_at_lem f s x h = at_tabulate (record_count s) (λ i. node_in f (record_at s i)) (record { label = 0; edges = [] }) x h

pub edges_size : (f : Layout) (s : List ℕ) (x : ℕ) → x < record_count s → length (node_at (graph_in f s) x).edges ≡ (length (record_at s x) - label_size f) / 5
edges_size f s x h = ap (λ N. length N.edges) (node_at_lem f s x h) ∙ length_tabulate (length (drop (label_size f) (record_at s x)) / 5) (edge_in (drop (label_size f) (record_at s x)))
    ∙ ap (λ n. n / 5) (length-drop (label_size f) (record_at s x))

-- ---- 10, of a graph's record: a label, whole edges, at most 32
abbrev pub most_edges : ℕ
most_edges = 32

abbrev pub NodeForm : Layout → ℕ → Type 0
NodeForm f n = (label_size f ≤ n) × (((n - label_size f) % 5 ≡ 0) × ((n - label_size f) / 5 ≤ most_edges))

unfoldable pub node_form_test : Layout → ℕ → Bool
node_form_test f n = leb (label_size f) n && (eqb ((n - label_size f) % 5) 0 && leb ((n - label_size f) / 5) most_edges)

pub node_form↔ : (f : Layout) (n : ℕ) → So (node_form_test f n) ↔ NodeForm f n
unfolding node_form_test
node_form↔ f n = simp reading Iff.rfl

pub label_read : (f : Layout) (s : List ℕ) (i N at : ℕ) → at ≡ offset_at s 2 i → N ≡ label_in f.wide s at → N ≡ label_of f s i
unfolding label_of
label_read f s i N at p q = rw (← p) q

-- ---- laws for the code
module _ (s : List ℕ) where
  pub head_read : (k n : ℕ) (f : Bool) → k ≡ byte_at s 0 → n ≡ record_count s → f ≡ fills s 2 n (2 + 4 * n)
      → ((leb 1 k && leb k 2) && (leb 1 n && (leb n 64 && f))) ≡ head_test s
  unfolding head_test
  head_read k n f p q r = rw (r, p, q) refl

  pub head_off : head_test s ≡ false → None ≡ head_of s
  unfolding head_of
  head_off e = rw e refl

  pub head_graph : head_test s ≡ true → byte_at s 0 ≡ 1 → (n : ℕ) → n ≡ record_count s → Some (GraphOf n) ≡ head_of s
  unfolding head_of
  head_graph e k n q = rw (e, k, q) refl

  pub head_refutation : head_test s ≡ true → (byte_at s 0 ≡ 1 → ⊥) → (n : ℕ) → n ≡ record_count s → Some (RefutationOf n) ≡ head_of s
  unfolding head_of
  head_refutation e k n q = rw (e, ne_eqb (byte_at s 0) 1 k, q) refl

  pub head_told : (h : Code.Option Head) → h ≡ head_of s → (h ≡ head_of s) × (head_refusal h ≡ unless (head_test s) 9 none)
  head_told h e = (e, ap head_refusal e ∙ head_refused s)

  -- and what the answer says: a graph with that many records, or none
  pub head_is_graph : (n : ℕ) → Some (GraphOf n) ≡ head_of s → ((head_test s && eqb (byte_at s 0) 1) ≡ true) × (n ≡ record_count s)
  unfolding head_of
  head_is_graph n q = go (head_test s) (eqb (byte_at s 0) 1) q
    where
      go : (a b : Bool) → Some (GraphOf n) ≡ cond a (cond b (Some (GraphOf (record_count s))) (Some (RefutationOf (record_count s)))) None → ((a && b) ≡ true) × (n ≡ record_count s)
      go true true e = (refl, cc)
      go true false e = absurd cc
      go false b e = absurd cc

  pub head_no_graph : (h : Code.Option Head) → h ≡ head_of s → ((n : ℕ) → h ≡ Some (GraphOf n) → ⊥) → (head_test s && eqb (byte_at s 0) 1) ≡ false
  unfolding head_of
  head_no_graph h q other = go (head_test s) (eqb (byte_at s 0) 1) q
    where
      go : (a b : Bool) → h ≡ cond a (cond b (Some (GraphOf (record_count s))) (Some (RefutationOf (record_count s)))) None → (a && b) ≡ false
      go true true e = absurd (other (record_count s) e)
      go true false e = refl
      go false b e = refl

-- the bytes behind a label of w bytes, where the tests of the record's place pass, and where one fails
module _ (f : Layout) (s : List ℕ) (i from n w : ℕ) (p : from ≡ offset_at s 2 i) (q : n ≡ length_at s 2 i) (e : w ≡ label_size f) where
  pub edges_inside : from + w ≤ from + n → from + n ≤ length s → take (from + n - (from + w)) (drop (from + w) s) ≡ edges_part f s i
  unfolding edges_part
  edges_inside h k = let l : label_size f ≤ length_at s 2 i = omega arith in let m : end_at s 2 i ≤ length s = omega arith in
      let z : from + n - (from + w) ≡ length_at s 2 i - label_size f = omega arith in rw (le-leb _ _ l, le-leb _ _ m, z, p, e) refl

  pub edges_none : from + n < from + w → [] ≡ edges_part f s i
  unfolding edges_part
  edges_none h = let l : length_at s 2 i < label_size f = omega arith in rw (lt-leb _ _ l) refl

  pub edges_past : from + w ≤ from + n → length s < from + n → [] ≡ edges_part f s i
  unfolding edges_part
  edges_past h k = let l : label_size f ≤ length_at s 2 i = omega arith in let m : length s < end_at s 2 i = omega arith in rw (le-leb _ _ l, lt-leb _ _ m) refl

-- the form test where the length is known to reach, or not
module _ (f : Layout) (n w : ℕ) (e : w ≡ label_size f) where
  pub form_short : n < w → false ≡ node_form_test f n
  unfolding node_form_test
  form_short h = let l : n < label_size f = omega arith in rw (lt-leb _ _ l) refl

  pub form_long : w ≤ n → (eqb ((n - w) % 5) 0 && leb ((n - w) / 5) 32) ≡ node_form_test f n
  unfolding node_form_test
  form_long h = let l : label_size f ≤ n = omega arith in rw (le-leb _ _ l, e) refl
