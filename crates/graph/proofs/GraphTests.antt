-- The tests of graphs say what the rules say.
use Rattle.std.specs.Prelude.{ℕ, ◌≤◌, ◌≡◌, refl, ◌↔◌, List, length}
use Rattle.std.proofs.Math.Logic.Iff
use Rattle.std.proofs.Math.Option.{none}
use Rattle.logic.specs.Tests.{So}
use Rattle.logic.specs.Lists.{◌∈◌, each↔, listed}
use Rattle.logic.specs.SetLaws.{nonempty↔, narrow↔}
use Rattle.logic.specs.Refusals.{unless↔, records↔}
use Rattle.description.specs.Literals.{Literal, Label, members, in_table↔}
use Rattle.description.specs.Descriptions.{Description, compatible↔, kinds}
use Rattle.graph.specs.Graphs.{Edge, Graph, GraphLimits, GraphFits}
use Rattle.graph.specs.Graphs.{LabelOk, BothOk, EdgeOk, EveryOk, CountOk, NodeOk, Keeps}
use Rattle.graph.specs.GraphTests.{label_test, both_test, edge_test, every_test, count_test, node_refusal, graph_refusal}

pub label↔ : (D : Description) (W : List Literal) (N : ℕ) → So (label_test D W N) ↔ LabelOk D W (members N)
unfolding label_test
label↔ D W N = simp (listed, in_table↔) (
  λ t. record { inside_table = t.0; has_top = t.1.0; has_rules = t.1.1.0; consistent = t.1.1.1.0; has_wanted = t.1.1.1.1 },
  λ o. (o.inside_table, (o.has_top, (o.has_rules, (o.consistent, o.has_wanted)))),
)

pub both↔ : (D : Description) (L : Label) → So (both_test D L) ↔ BothOk D L
unfolding both_test
both↔ D L = simp (listed, kinds) Iff.rfl

pub edge↔ : (lim : GraphLimits) (D : Description) (size : ℕ) (E : Edge) → So (edge_test lim D size E) ↔ (EdgeOk D size E × So (lim.count E.count))
unfolding edge_test
edge↔ lim D size E = simp (listed, nonempty↔, narrow↔, compatible↔) (
  λ t. (record { target_in = t.0.0; some_role = t.0.1.0; roles_inside = t.0.1.1.0; roles_up = t.0.1.1.1.0; roles_compatible = t.0.1.1.1.1.0; some_copy = t.0.1.1.1.1.1 }, t.1),
  λ o. ((o.0.target_in, (o.0.some_role, (o.0.roles_inside, (o.0.roles_up, (o.0.roles_compatible, o.0.some_copy))))), o.1),
)

pub every↔ : (D : Description) (lab : ℕ → Label) (L : Label) (es : List Edge) → So (every_test D lab L es) ↔ EveryOk D lab L es
unfolding every_test
every↔ D lab L es = simp (listed, kinds) Iff.rfl

pub count↔ : (D : Description) (lab : ℕ → Label) (L : Label) (es : List Edge) → So (count_test D lab L es) ↔ CountOk D lab L es
unfolding count_test
count↔ D lab L es = simp (listed, kinds) Iff.rfl

-- none of 11 to 15 refuses a record exactly if it keeps the rules and its counts are within the limits
pub node↔ : (lim : GraphLimits) (D : Description) (size : ℕ) (lab : ℕ → Label) (W : List Literal) (N : ℕ) (es : List Edge)
    → (node_refusal lim D size lab W N es ≡ none) ↔ (NodeOk D size lab W (members N) es × ((E : Edge) → E ∈ es → So (lim.count E.count)))
unfolding node_refusal
node↔ lim D size lab W N es = simp (unless↔, label↔, both↔, each↔, edge↔, every↔, count↔) (
  λ t. (
    record {
      label_ok = t.0;
      both_ok = t.1.0;
      edges_ok = λ E m. (t.1.1.0 E m).0;
      every_ok = t.1.1.1.0;
      count_ok = t.1.1.1.1.0;
    },
    λ E m. (t.1.1.0 E m).1,
  ),
  λ o. (o.0.label_ok, (o.0.both_ok, (λ E m. (o.0.edges_ok E m, o.1 E m), (o.0.every_ok, (o.0.count_ok, refl))))),
)

-- a graph of one record or more is refused by none of 10 to 15 exactly if it keeps the rules and is within the limits
pub graph↔ : (lim : GraphLimits) (D : Description) (W : List Literal) (G : Graph)
    → ((1 ≤ length G) × (graph_refusal lim D W G ≡ none)) ↔ (Keeps D W G × GraphFits lim G)
unfolding graph_refusal
graph↔ lim D W G = simp (records↔, unless↔, node↔) (
  λ t. (record { some_node = t.0; nodes = λ x l. (t.1.1.0 x l).0 }, record { edges_fit = λ x l. (t.1.0 x l).0; counts_fit = λ x l. (t.1.1.0 x l).1 }),
  λ o. (o.0.some_node, (λ x l. (o.1.edges_fit x l, refl), (λ x l. (o.0.nodes x l, o.1.counts_fit x l), refl))),
)
