-- The records of well-formed graph evidence, read in place: where their pairs say, their labels and edges are those of the graph.
use Rattle.std.specs.Prelude.{ℕ, zero, suc, ◌+◌, ◌-◌, ◌*◌, ◌/◌, ◌≤◌, ◌<◌, ◌≡◌, List, [], ◌∷◌, length, take, drop, Bool, true, false}
use Rattle.std.proofs.Math.Path.{refl, ap}
use Rattle.std.proofs.Common.{sym, ◌∙◌, ap₂, arith, add-zero, length-take, length-drop, drop-drop, get_or-take, get_or-drop}
use Rattle.std.proofs.Math.Nat.{sub-zero}
use borrow.Author.Tests.{le-leb, lt-leb}
use Rattle.std.proofs.Math.Seq.{take-nil}
use Rattle.parts.specs.Numbers.{byte_at, num2}
use Rattle.parts.specs.Pairs.{offset_at, length_at, end_at, pair_inside}
use Rattle.labels.specs.Blocks.{block}
use Rattle.labels.specs.Labels.{num4, num8, label_in, bytes_wide, bytes_narrow}
use Rattle.evidence.specs.declared.Layout.{Layout}
use Rattle.graph.specs.Graphs.{node_at, edges_at}
use Rattle.evidence.specs.Evidence.{record_count, HeadOk, label_size, record_at, edges_in, label_of, edges_part, graph_in, node_at_lem, NodeForm, most_edges}

-- ---- a record that has a label and lies in the evidence, read in place
module _ (f : Layout) (s : List ℕ) (i : ℕ) (labelled : label_size f ≤ length_at s 2 i) (inside : end_at s 2 i ≤ length s) where
  drop_take : (a b : ℕ) (l : List ℕ) → drop a (take b l) ≡ take (b - a) (drop a l)
  drop_take zero b l = rw sub-zero refl
  drop_take (suc a) zero l = let z : 0 - suc a ≡ 0 = omega arith in rw z refl
  drop_take (suc a) (suc b) [] = sym (take-nil (suc b - suc a))
  drop_take (suc a) (suc b) (x ∷ l) = let z : suc b - suc a ≡ b - a = omega arith in rw z (drop_take a b l)

  pub edges_part_is : edges_part f s i ≡ drop (label_size f) (record_at s i)
  unfolding edges_part
  edges_part_is = rw (le-leb _ _ labelled, le-leb _ _ inside) (sym (drop_take (label_size f) (length_at s 2 i) (drop (offset_at s 2 i) s) ∙ ap (take (length_at s 2 i - label_size f)) (drop-drop (label_size f) (offset_at s 2 i) s)))

  record_byte : (k : ℕ) → k < label_size f → byte_at (record_at s i) k ≡ byte_at s (offset_at s 2 i + k)
  record_byte k h = get_or-take (length_at s 2 i) (drop (offset_at s 2 i) s) k 0 (omega arith) ∙ get_or-drop (offset_at s 2 i) s k 0

  record_num2 : (k : ℕ) → k + 2 ≤ label_size f → num2 (record_at s i) k ≡ num2 s (offset_at s 2 i + k)
  record_num2 k h = let e : offset_at s 2 i + (k + 1) ≡ offset_at s 2 i + k + 1 = omega arith in
      ap₂ (λ (a b : ℕ). a * 256 + b) (record_byte k (omega arith)) (record_byte (k + 1) (omega arith) ∙ ap (byte_at s) e)

  record_num4 : (k : ℕ) → k + 4 ≤ label_size f → num4 (record_at s i) k ≡ num4 s (offset_at s 2 i + k)
  record_num4 k h = let e : offset_at s 2 i + (k + 2) ≡ offset_at s 2 i + k + 2 = omega arith in
      ap₂ (block 16) (record_num2 k (omega arith)) (record_num2 (k + 2) (omega arith) ∙ ap (num2 s) e)

  record_num8 : (k : ℕ) → k + 8 ≤ label_size f → num8 (record_at s i) k ≡ num8 s (offset_at s 2 i + k)
  record_num8 k h = let e : offset_at s 2 i + (k + 4) ≡ offset_at s 2 i + k + 4 = omega arith in
      ap₂ (block 32) (record_num4 k (omega arith)) (record_num4 (k + 4) (omega arith) ∙ ap (num4 s) e)

  pub label_part_is : label_in f.wide (record_at s i) 0 ≡ label_of f s i
  unfolding label_of label_in
  label_part_is = go f.wide refl
    where
      first : 0 + 8 ≤ label_size f → num8 (record_at s i) 0 ≡ num8 s (offset_at s 2 i)
      first h = record_num8 0 h ∙ ap (num8 s) (add-zero (offset_at s 2 i))

      go : (b : Bool) → f.wide ≡ b → label_in b (record_at s i) 0 ≡ label_in b s (offset_at s 2 i)
      go true e = let z = bytes_wide f.wide e in ap₂ (block 64) (first (omega arith)) (record_num8 8 (omega arith))
      go false e = let z = bytes_narrow f.wide e in first (omega arith)

-- a record without a label has nothing behind it
pub edges_part_none : (f : Layout) (s : List ℕ) (i : ℕ) → length_at s 2 i < label_size f → edges_part f s i ≡ []
unfolding edges_part
edges_part_none f s i h = rw (lt-leb (label_size f) (length_at s 2 i) h) refl

-- ---- all records
module _ (s : List ℕ) (head : HeadOk s) where
  pub record_inside : (x : ℕ) → x < record_count s → end_at s 2 x ≤ length s
  record_inside x h = pair_inside s 2 (record_count s) _ x head.1.1.1 h

  pub record_length : (x : ℕ) → x < record_count s → length (record_at s x) ≡ length_at s 2 x
  record_length x h = length-take (length_at s 2 x) (drop (offset_at s 2 x) s) ∙ (let l = length-drop (offset_at s 2 x) s in omega (arith, record_inside x h))

  module _ (f : Layout) (formed : (x : ℕ) → x < record_count s → NodeForm f (length (record_at s x))) where
    labelled : (x : ℕ) → x < record_count s → label_size f ≤ length_at s 2 x
    labelled x h = omega (arith, (formed x h).0, record_length x h)

    pub label_there : (x : ℕ) → x < record_count s → (node_at (graph_in f s) x).label ≡ label_of f s x
    label_there x h = ap (λ N. N.label) (node_at_lem f s x h) ∙ label_part_is f s x (labelled x h) (record_inside x h)

    pub edges_behind : (x : ℕ) → x < record_count s → edges_part f s x ≡ drop (label_size f) (record_at s x)
    edges_behind x h = edges_part_is f s x (labelled x h) (record_inside x h)

    pub edges_there : (x : ℕ) → x < record_count s → edges_at (graph_in f s) x ≡ edges_in (edges_part f s x)
    edges_there x h = ap (λ N. N.edges) (node_at_lem f s x h) ∙ ap edges_in (sym (edges_behind x h))

    pub edges_few : (x : ℕ) → x < record_count s → length (edges_part f s x) / 5 ≤ most_edges
    edges_few x h = rw (edges_behind x h, length-drop) (formed x h).1.1
