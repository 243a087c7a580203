-- Of lifted graphs, which have no limits, the tests say what the rules say.
use Rattle.std.specs.Prelude.{◌≤◌, ◌≡◌, refl, ◌↔◌, List, length}
use Rattle.std.proofs.Math.Option.{none}
use Rattle.description.specs.Literals.{Literal}
use Rattle.description.specs.Descriptions.{Description}
use Rattle.graph.specs.Graphs.{Graph, Keeps}
use Rattle.graph.specs.GraphTests.{any_graph, graph_refusal}
use Rattle.graph.proofs.GraphTests.{graph↔}

-- lifted: no limits
pub lifted_graph↔ : (D : Description) (W : List Literal) (G : Graph) → ((1 ≤ length G) × (graph_refusal any_graph D W G ≡ none)) ↔ Keeps D W G
lifted_graph↔ D W G = (
  λ e. ((graph↔ any_graph D W G).0 e).0,
  λ k. (graph↔ any_graph D W G).1 (k, record { edges_fit = λ x l. refl; counts_fit = λ x l E m. refl }),
)
