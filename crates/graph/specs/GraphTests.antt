-- Rules 10 to 15 of graphs (01, "Evidence" and "Table of refusals") as tests, in the table's order, and that they say what the rules say.
use Rattle.std.specs.Prelude.{ℕ, ◌*◌, Bool, true, not, ◌&&◌, ◌||◌, List, leb, ltb, length}
use Rattle.std.proofs.Math.Option.{Option, none}
use Rattle.logic.specs.Tests.{◌⇒◌}
use Rattle.logic.specs.Bounded.{all_below}
use Rattle.logic.specs.Lists.{each, some?}
use Rattle.logic.specs.Sets.{nonempty, narrow}
use Rattle.logic.specs.Refusals.{Refusal, unless, refuse_from}
use Rattle.description.specs.Literals.{Literal, pos, neg, opposite, Label, members}
use Rattle.description.specs.Descriptions.{every, Description, compatible, if_both, if_every, if_least, same_entry}
use Rattle.description.specs.Roles.{ancestor}
use Rattle.graph.specs.Graphs.{Edge, Graph, node_at, label_at, edges_at, of_role, counted, wanted_at, GraphLimits}

-- no limits: lifted graphs
abbrev pub any_graph : GraphLimits
any_graph = record { edges = λ n. true; count = λ n. true }

-- the limits of stored evidence: 32 edges a record, 1,000 for a count
abbrev pub stored_graph : GraphLimits
stored_graph = record { edges = λ n. leb n 32; count = λ n. leb n 1000 }

unfoldable pub label_test : Description → List Literal → ℕ → Bool
label_test D W N = narrow N (2 * D.entries)
    && (members N (pos 0)
    && (all_below D.rules (λ i. members N (D.rule i))
    && (all_below D.entries (λ e. members N (pos e) ⇒ not (members N (neg e)))
    && each W (members N))))

unfoldable pub both_test : Description → Label → Bool
both_test D L = all_below D.entries (λ e. if_both (λ a b. (L (pos e) ⇒ (L a && L b)) && (L (neg e) ⇒ (L (opposite a) || L (opposite b)))) (D.entry e))

unfoldable pub edge_test : GraphLimits → Description → ℕ → Edge → Bool
edge_test lim D size E = (ltb E.target size
    && (nonempty E.mask
    && (narrow E.mask D.roles
    && (all_below D.roles (λ r. of_role r E ⇒ all_below D.roles (λ s. ancestor D r s ⇒ of_role s E))
    && (compatible D (λ r. of_role r E) && leb 1 E.count)))))
    && lim.count E.count

abbrev pub pass_test : Description → ℕ → Literal → Edge → Label → Bool
pass_test D r l E M = M l && all_below D.roles (λ t. D.transitive t ⇒ (of_role t E ⇒ (ancestor D t r
    ⇒ all_below D.entries (λ f. same_entry (every t l) (D.entry f) ⇒ M (pos f)))))

module _ (D : Description) (lab : ℕ → Label) (L : Label) (es : List Edge) where
  unfoldable pub every_test : Bool
  every_test = all_below D.entries (λ e. if_every (λ r l.
      (L (pos e) ⇒ each es (λ E. of_role r E ⇒ pass_test D r l E (lab E.target)))
      && (L (neg e) ⇒ some? es (λ E. of_role r E && lab E.target (opposite l)))) (D.entry e))

  unfoldable pub count_test : Bool
  count_test = all_below D.entries (λ e. if_least (λ r l n.
      (L (pos e) ⇒ leb n (counted lab es r l))
      && (L (neg e) ⇒ (ltb (counted lab es r l) n && each es (λ E. of_role r E ⇒ (lab E.target l || lab E.target (opposite l)))))) (D.entry e))

-- the smallest of 11 to 15 that refuses a record with label number N and edges es
unfoldable pub node_refusal : GraphLimits → Description → ℕ → (ℕ → Label) → List Literal → ℕ → List Edge → Option ℕ
node_refusal lim D size lab W N es =
    unless (label_test D W N) 11
    (unless (both_test D (members N)) 12
    (unless (each es (edge_test lim D size)) 13
    (unless (every_test D lab (members N) es) 14
    (unless (count_test D lab (members N) es) 15 none))))

-- 10, of one record
abbrev pub node_form : GraphLimits → List Edge → Option ℕ
node_form lim es = unless (lim.edges (length es)) 10 none

-- first every record's form; then each record in turn by 11 to 15
unfoldable pub graph_refusal : GraphLimits → Description → List Literal → Graph → Option Refusal
graph_refusal lim D W G =
    refuse_from (λ x. node_form lim (edges_at G x)) (length G) 0
    (refuse_from (λ x. node_refusal lim D (length G) (label_at G) (wanted_at W x) (node_at G x).label (edges_at G x)) (length G) 0 none)
