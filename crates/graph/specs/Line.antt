-- The interpretation that a graph stands for (01, "The written line"; FORMAT 7): K copies of each node.
use Rattle.std.specs.Prelude.{ℕ, ◌-◌, ◌*◌, ◌/◌, ◌%◌, max, Bool, false, cond, ◌&&◌, ◌||◌, List, [], ◌∷◌, eqb, ltb, length}
use Rattle.logic.specs.Bounded.{any_below}
use Rattle.logic.specs.Sums.{max_below}
use Rattle.logic.specs.Closure.{closure}
use Rattle.description.specs.Literals.{pos}
use Rattle.description.specs.Descriptions.{Description, is_name}
use Rattle.description.specs.Roles.{ancestor}
use Rattle.interpretation.specs.Meaning.{Interpretation}
use Rattle.graph.specs.Graphs.{Edge, Graph, label_at, edges_at, of_role, total}

-- K: the most that the counts of the edges from x to y add up to, over all nodes x and y; 1 if there is no edge
unfoldable pub copies : Graph → ℕ
copies G = max 1 (max_below (length G) (λ x. max_below (length G) (λ y. total (edges_at G x) (λ E. eqb E.target y))))

-- role r joins each copy of a node with edges es to copy j of node y: parallel edges share out the copies of their target in order
unfoldable pub joins : List Edge → ℕ → ℕ → ℕ → Bool
joins [] y j r = false
joins (E ∷ es) y j r = cond (eqb E.target y) (cond (ltb j E.count) (of_role r E) (joins es y (j - E.count) r)) (joins es y j r)

-- direct pairs: element z is copy z % K of node z / K
unfoldable pub direct : Graph → ℕ → ℕ → ℕ → ℕ → Bool
direct G K r z w = joins (edges_at G (z / K)) (w / K) (w % K) r

-- all pairs: the direct ones, and along each transitive role below r the paths of direct ones
unfoldable pub pairs : Description → Graph → ℕ → ℕ → ℕ → ℕ → Bool
pairs D G K r z w = direct G K r z w
    || any_below D.roles (λ t. D.transitive t && (ancestor D t r && closure (length G * K) (direct G K t) z w))

abbrev pub line_with : Description → Graph → ℕ → Interpretation
line_with D G K = record { size = length G * K; name = λ e z. is_name (D.entry e) && label_at G (z / K) (pos e); role = pairs D G K }

abbrev pub line : Description → Graph → Interpretation
line D G = line_with D G (copies G)
