-- Tests 9 to 15 on the bytes of a graph, after those of the description, and what it is to pass them (01, "Evidence"; FORMAT 4, 8).
use Rattle.std.specs.Prelude.{ℕ, ◌<◌, ◌≡◌, refl, ◌↔◌, Bool, ◌&&◌, List, eqb, length}
use Rattle.std.proofs.Math.Option.{Option, none}
use Rattle.logic.specs.Tests.{reading}
use Rattle.logic.specs.Refusals.{Refusal, unless, unless↔, refuse, refuse↔, refuse_from, records↔}
use Rattle.description.specs.Literals.{Literal}
use Rattle.description.specs.Descriptions.{Description, wanted}
use Rattle.parts.specs.Numbers.{byte_at}
use Rattle.graph.specs.Graphs.{Keeps, GraphFits}
use Rattle.graph.specs.GraphTests.{stored_graph, graph_refusal}
use Rattle.graph.proofs.GraphTests.{graph↔}
use Rattle.intake.specs.Intake.{bytes_test, described}
use Rattle.evidence.specs.declared.Layout.{Layout}
use Rattle.evidence.specs.Evidence.{record_count, layout_of, HeadOk, head_test, head↔, record_at, graph_in, graph_size, NodeForm, node_form_test, node_form↔}

-- 9: the head of a graph
abbrev pub graph_head : List ℕ → Bool
graph_head s = head_test s && eqb (byte_at s 0) 1

-- 10, of record x: a label, then at most 32 whole edges
abbrev pub form_at : Layout → List ℕ → ℕ → Option ℕ
form_at f s x = unless (node_form_test f (length (record_at s x))) 10 none

-- 9; 10 of every record; then the rules of the graph that the bytes are, stored as for the description, where the literals W are wanted of
-- record 0
unfoldable pub graph_tests : Description → List Literal → List ℕ → Option Refusal
graph_tests D W s = refuse 0 (unless (graph_head s) 9 none) (refuse_from (form_at (layout_of D) s) (record_count s) 0 (graph_refusal stored_graph D W (graph_in (layout_of D) s)))

-- a plain question: the description's tests come first, and its root is wanted
unfoldable pub graph_refused : List ℕ → List ℕ → Option Refusal
graph_refused d s = refuse 0 (bytes_test d) (graph_tests (described d) (wanted (described d)) s)

-- ---- exactly when
-- the bytes have the form of a graph, and the graph that they are is within the limits and keeps the rules
pub record GraphKept (D : Description) (W : List Literal) (s : List ℕ) : Type 0 where
  pub head : HeadOk s
  pub is_graph : byte_at s 0 ≡ 1
  pub formed : (x : ℕ) → x < record_count s → NodeForm (layout_of D) (length (record_at s x))
  pub fits : GraphFits stored_graph (graph_in (layout_of D) s)
  pub keeps : Keeps D W (graph_in (layout_of D) s)

-- none of 9 to 15 refuses exactly then
pub kept↔ : (D : Description) (W : List Literal) (s : List ℕ) → (graph_tests D W s ≡ none) ↔ GraphKept D W s
unfolding graph_tests
kept↔ D W s = simp (refuse↔, unless↔, records↔, reading, head↔, node_form↔) (
  λ t. let g = (graph↔ stored_graph D W (graph_in (layout_of D) s)).0 (rw (graph_size (layout_of D) s) t.0.0.0.1.0, t.1.1) in
      record { head = t.0.0.0; is_graph = t.0.0.1; formed = λ x h. (t.1.0 x h).0; fits = g.1; keeps = g.0 },
  λ k. (((k.head, k.is_graph), refl), (λ x h. (k.formed x h, refl), ((graph↔ stored_graph D W (graph_in (layout_of D) s)).1 (k.keeps, k.fits)).1)),
)
