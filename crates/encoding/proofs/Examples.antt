-- Worked examples: P1, P2 and P3 of 01 and a variant of P6 with a split, byte by byte, wide ones, and one with barred cells; they are
-- stored, and so they are what their bytes are read as.
use Rattle.std.specs.Prelude.{ℕ, zero, suc, ◌+◌, ◌^◌, ◌<◌, ◌≡◌, refl, true, false, length, get_or}
use Rattle.std.proofs.Common.{sym, subst, inl, inr, arith}
use Rattle.std.proofs.lemmas.Bool.{false≢true}
use mathlib.Core.List.Memᴰ
use mathlib.Core.List.{List, [], ◌∷◌, map, flatten}
use Rattle.logic.specs.Tests.{so_ltb}
use Rattle.logic.specs.Lists.{◌∈◌, tabulate}
use Rattle.counting.specs.Trees.{Tree, leaf, split, formed, depth}
use Rattle.description.specs.Literals.{pos, neg, code}
use Rattle.labels.specs.Labels.{label_bytes}
use Rattle.graph.specs.Graphs.{Graph}
use Rattle.evidence.specs.declared.Layout.{Layout}
use Rattle.evidence.specs.Evidence.{graph_in}
use Rattle.refutation.specs.Records.{unshown, cited, barred, contradiction, conjunction, counting, Refutation}
use Rattle.refutation.specs.RecordTests.{when_counting}
use Rattle.list_form.specs.ListForm.{cell_of}
use Rattle.lists.specs.Lists.{refutation_in}
use Rattle.laying.specs.Places.{Byte}
use Rattle.laying.specs.Numbers.{label}
use Rattle.encoding.specs.Bundles.{start, bundle}
use Rattle.encoding.specs.Trees.{encode_tree}
use Rattle.encoding.specs.Steps.{encode_cell, encode_step, CellWidth}
use Rattle.encoding.specs.Nodes.{encode_node, EdgeWidth, NodeWidth}
use Rattle.encoding.specs.Encoding.{encode_graph, GraphStored, encode_record, encode_refutation, RecordWidth, RefutationStored}
use Rattle.encoding.proofs.Encoding.{graph_stored, refutation_stored}

-- a label by its literals
abbrev set : List ℕ → ℕ
set [] = 0
set (l ∷ ls) = 2 ^ l + set ls

-- for a table that is not wide, for one that is, and for one that is not, with a mark for barred cells
abbrev narrow : Layout
narrow = record { wide = false; marks = false }

abbrev broad : Layout
broad = record { wide = true; marks = false }

abbrev marked : Layout
marked = record { wide = false; marks = true }

-- ---- graphs
abbrev p1 : Graph
p1 = record { label = set (0 ∷ []); edges = [] } ∷ []

pub p1_bytes : encode_graph narrow p1 ≡ 1 ∷ 1 ∷ 0 ∷ 6 ∷ 0 ∷ 8 ∷ 0 ∷ 0 ∷ 0 ∷ 0 ∷ 0 ∷ 0 ∷ 0 ∷ 1 ∷ []
unfolding flatten tabulate bundle encode_node label
p1_bytes = refl

abbrev p3 : Graph
p3 = record { label = set (0 ∷ 2 ∷ 5 ∷ 6 ∷ []); edges = record { target = 1; mask = set (0 ∷ []); count = 2 } ∷ [] } ∷ record { label = set (0 ∷ []); edges = [] } ∷ []

pub p3_bytes : encode_graph narrow p3 ≡
    -- two records: 13 bytes at 10, 8 bytes at 23
    1 ∷ 2 ∷ 0 ∷ 10 ∷ 0 ∷ 13 ∷ 0 ∷ 23 ∷ 0 ∷ 8
    -- node 0, and its edge; node 1
    ∷ 0 ∷ 0 ∷ 0 ∷ 0 ∷ 0 ∷ 0 ∷ 0 ∷ 101 ∷ 1 ∷ 0 ∷ 1 ∷ 0 ∷ 2
    ∷ 0 ∷ 0 ∷ 0 ∷ 0 ∷ 0 ∷ 0 ∷ 0 ∷ 1 ∷ []
unfolding flatten tabulate bundle encode_node label
p3_bytes = refl

-- labels of 16 bytes: literals from 64 on stand before the others
abbrev w3 : Graph
w3 = record { label = set (0 ∷ 64 ∷ 127 ∷ []); edges = record { target = 0; mask = set (0 ∷ []); count = 2 } ∷ [] } ∷ []

pub w3_bytes : encode_graph broad w3 ≡
    1 ∷ 1 ∷ 0 ∷ 6 ∷ 0 ∷ 21
    ∷ 128 ∷ 0 ∷ 0 ∷ 0 ∷ 0 ∷ 0 ∷ 0 ∷ 1 ∷ 0 ∷ 0 ∷ 0 ∷ 0 ∷ 0 ∷ 0 ∷ 0 ∷ 1 ∷ 0 ∷ 0 ∷ 1 ∷ 0 ∷ 2 ∷ []
unfolding flatten tabulate bundle encode_node label
w3_bytes = refl

-- ---- refutations
abbrev p2 : Refutation
p2 = record { label = set (1 ∷ []); step = contradiction (neg 0) } ∷ []

pub p2_bytes : encode_refutation narrow p2 ≡ 2 ∷ 1 ∷ 0 ∷ 6 ∷ 0 ∷ 10 ∷ 0 ∷ 0 ∷ 0 ∷ 0 ∷ 0 ∷ 0 ∷ 0 ∷ 2 ∷ 1 ∷ 1 ∷ []
unfolding flatten tabulate bundle encode_record label encode_step
p2_bytes = refl

-- P2 for a wide table, and a record of its last entry
pub w2_bytes : encode_refutation broad p2 ≡
    2 ∷ 1 ∷ 0 ∷ 6 ∷ 0 ∷ 18 ∷ 0 ∷ 0 ∷ 0 ∷ 0 ∷ 0 ∷ 0 ∷ 0 ∷ 0 ∷ 0 ∷ 0 ∷ 0 ∷ 0 ∷ 0 ∷ 0 ∷ 0 ∷ 2 ∷ 1 ∷ 1 ∷ []
unfolding flatten tabulate bundle encode_record label encode_step
w2_bytes = refl

abbrev w4 : Refutation
w4 = record { label = set (126 ∷ 127 ∷ []); step = contradiction (pos 63) } ∷ []

pub w4_bytes : encode_refutation broad w4 ≡
    2 ∷ 1 ∷ 0 ∷ 6 ∷ 0 ∷ 18 ∷ 192 ∷ 0 ∷ 0 ∷ 0 ∷ 0 ∷ 0 ∷ 0 ∷ 0 ∷ 0 ∷ 0 ∷ 0 ∷ 0 ∷ 0 ∷ 0 ∷ 0 ∷ 0 ∷ 1 ∷ 126 ∷ []
unfolding flatten tabulate bundle encode_record label encode_step
w4_bytes = refl

-- P6, with its open cell split at 1,000: at most that many, or more
abbrev halves : Tree
halves = split 3 1000 (leaf (1 ∷ 1 ∷ 0 ∷ [])) (leaf (1 ∷ 0 ∷ 1 ∷ []))

abbrev p6 : Refutation
p6 = record { label = set (1 ∷ []); step = contradiction (neg 0) }
    ∷ record { label = set (3 ∷ 4 ∷ []); step = counting (record { rows = neg 1 ∷ pos 2 ∷ []; cells = cited 0 ∷ cited 0 ∷ unshown ∷ []; tree = halves }) }
    ∷ record { label = set (8 ∷ []); step = conjunction 4 1 }
    ∷ []

pub p6_bytes : encode_refutation narrow p6 ≡
    -- three records: 10 bytes at 14, 27 bytes at 24, 11 bytes at 51
    2 ∷ 3 ∷ 0 ∷ 14 ∷ 0 ∷ 10 ∷ 0 ∷ 24 ∷ 0 ∷ 27 ∷ 0 ∷ 51 ∷ 0 ∷ 11
    ∷ 0 ∷ 0 ∷ 0 ∷ 0 ∷ 0 ∷ 0 ∷ 0 ∷ 2 ∷ 1 ∷ 1
    -- two rows, three cells, the split and its leaves
    ∷ 0 ∷ 0 ∷ 0 ∷ 0 ∷ 0 ∷ 0 ∷ 0 ∷ 24 ∷ 6 ∷ 2 ∷ 3 ∷ 4 ∷ 0 ∷ 0 ∷ 255 ∷ 1 ∷ 3 ∷ 3 ∷ 232 ∷ 0 ∷ 1 ∷ 1 ∷ 0 ∷ 0 ∷ 1 ∷ 0 ∷ 1
    ∷ 0 ∷ 0 ∷ 0 ∷ 0 ∷ 0 ∷ 0 ∷ 1 ∷ 0 ∷ 2 ∷ 4 ∷ 1 ∷ []
unfolding flatten tabulate bundle encode_record label encode_step encode_tree
p6_bytes = refl

-- rows on two roles that never share a filler and on a third above them: the cells of both roles are barred
abbrev p5 : Refutation
p5 = record { label = set (1 ∷ []); step = contradiction (neg 0) }
    ∷ record {
      label = set (2 ∷ 4 ∷ 7 ∷ []);
      step = counting (record {
        rows = pos 1 ∷ pos 2 ∷ neg 3 ∷ [];
        cells = cited 0 ∷ cited 0 ∷ barred ∷ unshown ∷ unshown ∷ unshown ∷ barred ∷ [];
        tree = leaf (1 ∷ 1 ∷ 1 ∷ []);
      });
    }
    ∷ record { label = set (7 ∷ 8 ∷ []); step = conjunction 4 1 }
    ∷ record { label = set (10 ∷ []); step = conjunction 5 2 }
    ∷ []

pub p5_bytes : encode_refutation marked p5 ≡
    2 ∷ 4 ∷ 0 ∷ 18 ∷ 0 ∷ 10 ∷ 0 ∷ 28 ∷ 0 ∷ 24 ∷ 0 ∷ 52 ∷ 0 ∷ 11 ∷ 0 ∷ 63 ∷ 0 ∷ 11
    ∷ 0 ∷ 0 ∷ 0 ∷ 0 ∷ 0 ∷ 0 ∷ 0 ∷ 2 ∷ 1 ∷ 1
    -- three rows, seven cells, the leaf
    ∷ 0 ∷ 0 ∷ 0 ∷ 0 ∷ 0 ∷ 0 ∷ 0 ∷ 148 ∷ 6 ∷ 3 ∷ 2 ∷ 4 ∷ 7 ∷ 0 ∷ 0 ∷ 254 ∷ 255 ∷ 255 ∷ 255 ∷ 254 ∷ 0 ∷ 1 ∷ 1 ∷ 1
    ∷ 0 ∷ 0 ∷ 0 ∷ 0 ∷ 0 ∷ 0 ∷ 1 ∷ 128 ∷ 2 ∷ 4 ∷ 1
    ∷ 0 ∷ 0 ∷ 0 ∷ 0 ∷ 0 ∷ 0 ∷ 4 ∷ 0 ∷ 2 ∷ 5 ∷ 2 ∷ []
unfolding flatten tabulate bundle encode_record label encode_step encode_tree
p5_bytes = refl

-- without a mark for barred cells one that cites record 254 is read back, and with it one that cites 253; the next would be read as a mark
pub last_cite : (cell_of false (encode_cell (cited 254)) ≡ cited 254) × (cell_of true (encode_cell (cited 253)) ≡ cited 253)
last_cite = (refl, refl)

pub open_mark : cell_of false (encode_cell (cited 255)) ≡ unshown
open_mark = refl

pub barred_mark : cell_of true (encode_cell (cited 254)) ≡ barred
barred_mark = refl

-- a barred cell is stored where there is a mark for it, and only there
pub barred_stored : CellWidth true barred × (CellWidth false barred → ⊥)
barred_stored = (refl, false≢true)

-- ---- stored
-- what holds of each element of a list that is written out
abbrev All : {A : Type 0} → (A → Type 0) → List A → Type 0
All P [] = Unit {0}
All P (x ∷ xs) = P x × All P xs

among : {A : Type 0} (P : A → Type 0) (xs : List A) → All P xs → (x : A) → x ∈ xs → P x
among P [] h x m = elim m [ ]
among P (y ∷ xs) h x m = elim (Memᴰ.cases_cons m) [ inl e ↦ subst P (sym e) h.0 | inr n ↦ among P xs h.1 x n ]

p3_stored : GraphStored narrow p3
unfolding label_bytes
p3_stored = record {
  some_node = omega arith;
  few_nodes = omega arith;
  nodes_fit = among (NodeWidth narrow) p3 (
    record { label_fits = omega arith; few_edges = omega arith; edges_fit = among EdgeWidth _ (record { target_fits = omega arith; mask_fits = omega arith; count_fits = omega arith }, tt) },
    (record { label_fits = omega arith; few_edges = omega arith; edges_fit = among EdgeWidth [] tt }, tt),
  );
}

pub p3_read : graph_in narrow (encode_graph narrow p3) ≡ p3
p3_read = (graph_stored narrow p3 p3_stored).3

w3_stored : GraphStored broad w3
unfolding label_bytes
w3_stored = record {
  some_node = omega arith;
  few_nodes = omega arith;
  nodes_fit = among (NodeWidth broad) w3 (
    record {
      label_fits = so_ltb _ _ refl;
      few_edges = omega arith;
      edges_fit = among EdgeWidth _ (record { target_fits = omega arith; mask_fits = omega arith; count_fits = omega arith }, tt);
    },
    tt,
  );
}

pub w3_read : graph_in broad (encode_graph broad w3) ≡ w3
w3_read = (graph_stored broad w3 w3_stored).3

p6_stored : RefutationStored narrow p6
unfolding label_bytes flatten encode_record label encode_step encode_tree when_counting formed depth
p6_stored = record {
  records_fit = among (RecordWidth narrow) p6 (
    record { label_fits = omega arith; form_fits = refl; step_fits = omega arith },
    (
      record {
        label_fits = omega arith;
        form_fits = refl;
        step_fits = record {
          rows_fit = among (λ l. code l < 256) (neg 1 ∷ pos 2 ∷ []) (omega arith, (omega arith, tt));
          cells_fit = among (CellWidth false) (cited 0 ∷ cited 0 ∷ unshown ∷ []) (omega arith, (omega arith, (tt, tt)));
          tree_fits = (omega arith, omega arith, among Byte _ (omega arith, (omega arith, (omega arith, tt))), among Byte _ (omega arith, (omega arith, (omega arith, tt))));
        };
      },
      (record { label_fits = omega arith; form_fits = refl; step_fits = (omega arith, omega arith) }, tt),
    ),
  );
  pairs_fit = record { some_record = omega arith; few_records = omega arith; starts = starts; lengths = lengths };
}
  where
    starts : (i : ℕ) → i < 3 → start (map (encode_record narrow) p6) i < 65536
    starts zero h = omega arith
    starts (suc zero) h = omega arith
    starts (suc (suc zero)) h = omega arith
    starts (suc (suc (suc i))) h = absurd (omega arith)

    lengths : (i : ℕ) → i < 3 → length (get_or (map (encode_record narrow) p6) i []) < 65536
    lengths zero h = omega arith
    lengths (suc zero) h = omega arith
    lengths (suc (suc zero)) h = omega arith
    lengths (suc (suc (suc i))) h = absurd (omega arith)

pub p6_read : refutation_in narrow (encode_refutation narrow p6) ≡ p6
p6_read = (refutation_stored narrow p6 p6_stored).3

w4_stored : RefutationStored broad w4
unfolding label_bytes flatten encode_record label encode_step when_counting
w4_stored = record {
  records_fit = among (RecordWidth broad) w4 (record { label_fits = so_ltb _ _ refl; form_fits = refl; step_fits = omega arith }, tt);
  pairs_fit = record { some_record = omega arith; few_records = omega arith; starts = starts; lengths = lengths };
}
  where
    starts : (i : ℕ) → i < 1 → start (map (encode_record broad) w4) i < 65536
    starts zero h = omega arith
    starts (suc i) h = absurd (omega arith)

    lengths : (i : ℕ) → i < 1 → length (get_or (map (encode_record broad) w4) i []) < 65536
    lengths zero h = omega arith
    lengths (suc i) h = absurd (omega arith)

pub w4_read : refutation_in broad (encode_refutation broad w4) ≡ w4
w4_read = (refutation_stored broad w4 w4_stored).3
