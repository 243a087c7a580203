-- The bytes of a graph's record: that they are read back, and that they are written again as they were read.
use Rattle.std.specs.Prelude.{ℕ, ◌+◌, ◌*◌, ◌/◌, ◌%◌, ◌≤◌, ◌<◌, ◌≡◌, refl, length, get_or, drop}
use Rattle.std.proofs.Common.{sym, ◌∙◌, ap, arith, length-drop}
use Rattle.std.proofs.Math.Path.{ap₂}
use mathlib.Core.List.{List, [], ◌∷◌, ◌++◌, map, flatten}
use Rattle.std.proofs.Math.ListN.{length-append}
use Rattle.std.proofs.lemmas.List.{length-map}
use Rattle.logic.specs.Lists.{length_tabulate, at_tabulate}
use Rattle.parts.specs.Numbers.{num2}
use Rattle.graph.specs.Graphs.{Edge, Node}
use Rattle.evidence.specs.declared.Layout.{Layout}
use Rattle.evidence.specs.Evidence.{label_size, edge_in, edges_in, node_in, NodeForm}
use Rattle.laying.specs.Places.{Stands, first, second, byte, stands_append, stands_more, stands_whole, before, stands_piece, before_all, before_even, stands_flatten, read_off, at_map, each_map, each_value, Small, small_more, small_append, small_flatten, small_at, small_drop}
use Rattle.laying.specs.Numbers.{two, label}
use Rattle.laying.proofs.Numbers.{two_bytes, label_bytes_lem, label_back, label_behind, label_again}
use Rattle.encoding.specs.Nodes.{encode_edge, encode_node, EdgeWidth, NodeWidth}

-- ---- read back
edge_back : {s : List ℕ} (j : ℕ) (E : Edge) → Stands s (5 * j) (encode_edge E) → edge_in s j ≡ E
edge_back j E h = let after = second (E.target ∷ []) (two E.mask ++ two E.count) h in
    let z : 5 * j + 1 + 2 ≡ 5 * j + 3 = omega arith in
    rw (
      byte E.target (two E.mask ++ two E.count) h,
      two_bytes.back E.mask (first (two E.mask) (two E.count) after),
      two_bytes.back E.count (rw z at (second (two E.mask) (two E.count) after)),
    ) refl

-- past the end
abbrev no_edge : Edge
no_edge = record { target = 0; mask = 0; count = 0 }

module _ (es : List Edge) where
  edge_at : (j : ℕ) → j < length es → get_or (map encode_edge es) j [] ≡ encode_edge (get_or es j no_edge)
  edge_at j h = at_map encode_edge es no_edge [] j h

  before_edge : (j : ℕ) → j ≤ length es → before (map encode_edge es) j ≡ 5 * j
  before_edge j h = before_even 5 (map encode_edge es) [] (λ i l. ap length (edge_at i (omega (arith, length-map es encode_edge)))) j (omega (arith, length-map es encode_edge))

  edges_length : length (flatten (map encode_edge es)) ≡ 5 * length es
  edges_length = sym (before_all (map encode_edge es)) ∙ ap (before (map encode_edge es)) (length-map es encode_edge) ∙ before_edge (length es) (omega arith)

  edges_back : edges_in (flatten (map encode_edge es)) ≡ es
  edges_back = read_off no_edge es (length (flatten (map encode_edge es)) / 5) (edge_in (flatten (map encode_edge es))) (omega (arith, edges_length))
      (λ j h. let l : j < length es = omega (arith, edges_length) in
      edge_back j _ (rw (edge_at j l, before_edge j (omega arith)) at (stands_piece (map encode_edge es) [] j (omega (arith, length-map es encode_edge)))))

module _ (f : Layout) (N : Node) where
  pub node_back : node_in f (encode_node f N) ≡ N
  unfolding encode_node
  node_back = let behind = flatten (map encode_edge N.edges) in ap₂ (λ L es. record { label = L; edges = es })
      (label_back f.wide N.label behind) (ap edges_in (label_behind f.wide N.label behind) ∙ edges_back N.edges)

  pub node_length : length (encode_node f N) ≡ label_size f + 5 * length N.edges
  unfolding encode_node
  node_length = let behind = flatten (map encode_edge N.edges) in
      omega (arith, length-append (label f.wide N.label) behind, (label_bytes_lem f.wide).long N.label, edges_length N.edges)

  pub node_form_lem : NodeWidth f N → NodeForm f (length (encode_node f N))
  node_form_lem w = omega (arith, node_length, w.few_edges)

  -- it is bytes
  pub node_small : NodeWidth f N → Small (encode_node f N)
  unfolding encode_node
  node_small w = small_append (label f.wide N.label) ((label_bytes_lem f.wide).small N.label w.label_fits)
      (small_flatten (map encode_edge N.edges) (each_map Small encode_edge N.edges (λ E m. edge_small E (w.edges_fit E m))))
    where
      edge_small : (E : Edge) → EdgeWidth E → Small (encode_edge E)
      edge_small E f = small_more f.target_fits (small_append (two E.mask) (two_bytes.small E.mask f.mask_fits) (two_bytes.small E.count f.count_fits))

-- ---- written again as they were read
edge_again : {es : List ℕ} (j : ℕ) → Small es → 5 * j + 5 ≤ length es → Stands es (5 * j) (encode_edge (edge_in es j))
edge_again {es} j b h = let z : 5 * j + 1 + 2 ≡ 5 * j + 3 = omega arith in
    stands_more _ _ refl (stands_append (two (num2 es (5 * j + 1))) (two (num2 es (5 * j + 3))) (two_bytes.again b (omega arith)) (rw z (two_bytes.again b (omega arith))))

edges_again : (es : List ℕ) → Small es → length es % 5 ≡ 0 → flatten (map encode_edge (edges_in es)) ≡ es
edges_again es b e = stands_whole _ (stands_flatten (map encode_edge (edges_in es)) (omega arith) here) (omega (arith, edges_length (edges_in es), many))
  where
    many : length (edges_in es) ≡ length es / 5
    many = length_tabulate (length es / 5) (edge_in es)

    here : (j : ℕ) → j < length (map encode_edge (edges_in es)) → Stands es (0 + before (map encode_edge (edges_in es)) j) (get_or (map encode_edge (edges_in es)) j [])
    here j h = let l : j < length es / 5 = omega (arith, many, length-map (edges_in es) encode_edge) in let z : 0 + 5 * j ≡ 5 * j = omega arith in
        rw (before_edge (edges_in es) j (omega (arith, many)), z, edge_at (edges_in es) j (omega (arith, many)), at_tabulate (length es / 5) (edge_in es) no_edge j l) (edge_again j b (omega arith))

module _ (f : Layout) {r : List ℕ} (b : Small r) (form : NodeForm f (length r)) where
  abbrev behind : List ℕ
  behind = drop (label_size f) r

  small_behind : Small behind
  small_behind = small_drop (label_size f) b

  pub node_again : encode_node f (node_in f r) ≡ r
  unfolding encode_node
  node_again = label_again f.wide _ b form.0 (edges_again behind small_behind (rw (length-drop (label_size f) r) form.1.0))

  -- what is read from bytes has their widths
  pub node_width : NodeWidth f (node_in f r)
  node_width = record {
    label_fits = (label_bytes_lem f.wide).fits 0 b;
    few_edges = omega (arith, form.1.1, length_tabulate (length behind / 5) (edge_in behind), length-drop (label_size f) r);
    edges_fit = each_value EdgeWidth (length behind / 5) (edge_in behind) (λ j h. record {
      target_fits = small_at small_behind (5 * j);
      mask_fits = two_bytes.fits (5 * j + 1) small_behind;
      count_fits = two_bytes.fits (5 * j + 3) small_behind;
    });
  }
