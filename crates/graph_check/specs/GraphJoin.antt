-- For an accepted description, the tests that the code makes are those of GraphEvidence.
use Rattle.std.specs.Prelude.{ℕ, zero, suc, ◌/◌, ◌≤◌, ◌<◌, ◌≡◌, List}
use Rattle.std.proofs.Math.Path.{refl, sym}
use Rattle.std.proofs.Common.{◌∙◌, ap, ap₂, arith, ne_eqb, le-leb}
use Rattle.std.proofs.Math.Option.{Option, none}
use Rattle.std.proofs.Math.ListN.{length}
use Rattle.logic.specs.Tests.{and_l}
use Rattle.logic.specs.Refusals.{unless, unless↔, unless_then, refuse_then, refuse_from, records↔, records_then, records_later, records_cong}
use Rattle.logic.specs.Bounded.{all_below}
use Rattle.logic.specs.Lists.{each}
use Rattle.parts.specs.Numbers.{up_to, up_to_all}
use Rattle.description.specs.Literals.{Literal, members, literal_set}
use Rattle.description.specs.Descriptions.{Description}
use Rattle.description.proofs.Roles.{anc_in}
use Rattle.tables.specs.Tables.{records_in, describe, entry_count}
use Rattle.roles.specs.Ancestors.{role_count}
use Rattle.roles.specs.Records.{MasksOf, masks_plain, masks_compatible}
use Rattle.intake.specs.Intake.{AcceptedParts, parts_test, parts_accepted}
use Rattle.labels.specs.Labels.{most_entries}
use Rattle.evidence.specs.declared.Layout.{Layout}
use Rattle.evidence.specs.Evidence.{record_count, layout_of, most_edges, HeadOk, head_test, head↔, record_at, edges_in, edges_part, graph_in, graph_size, edges_size, NodeForm, node_form_test, node_form↔, label_of}
use Rattle.evidence.proofs.InPlace.{record_length, label_there, edges_there, edges_few}
use Rattle.graph.specs.Graphs.{label_at, node_at, edges_at, wanted_at}
use Rattle.graph.specs.GraphTests.{stored_graph, label_test, both_test, edge_test, node_refusal, node_form, graph_refusal}
use Rattle.nodes.specs.NodeSteps.{label_code, required_set, label_is, both_at, both_is}
use Rattle.edges.specs.EdgeSteps.{edges_code}
use Rattle.edges.proofs.EdgeSteps.{edges_are}
use Rattle.fillers.specs.FillerLaws.{everys_are, counts_are}
use Rattle.graph_check.specs.GraphEvidence.{graph_head, form_at, graph_tests}
use Rattle.graph_check.specs.GraphSteps.{form_of, need_of, node_tests, record_code, records_code, graph_code}

-- 11 to 15, of record x
node_at_test : Description → List Literal → List ℕ → ℕ → Option ℕ
node_at_test D W s x = let G = graph_in (layout_of D) s in node_refusal stored_graph D (length G) (label_at G) (wanted_at W x) (node_at G x).label (edges_at G x)

-- records of the form have at most 32 edges, so the graph's own test 10 passes
rules_on : (D : Description) (W : List Literal) (s : List ℕ) → ((x : ℕ) → x < record_count s → NodeForm (layout_of D) (length (record_at s x)))
    → graph_refusal stored_graph D W (graph_in (layout_of D) s) ≡ refuse_from (node_at_test D W s) (record_count s) 0 none
unfolding graph_refusal node_at_test
rules_on D W s formed = ap (λ m. refuse_from form m 0 (refuse_from (node_at_test D W s) m 0 none)) (graph_size (layout_of D) s)
    ∙ records_then form (record_count s) 0 (refuse_from (node_at_test D W s) (record_count s) 0 none) ((records↔ form (record_count s) none).1 (few, refl))
  where
    form : ℕ → Option ℕ
    form x = node_form stored_graph (edges_at (graph_in (layout_of D) s) x)

    few : (x : ℕ) → x < record_count s → form x ≡ none
    few x h = let z : length (edges_at (graph_in (layout_of D) s) x) ≤ most_edges = rw (edges_size (layout_of D) s x h) (formed x h).1.1 in rw (le-leb _ _ z) refl

-- what record x is to have
need_is : (qs : List ℕ) (W : List Literal) (x : ℕ) → need_of (required_set qs (literal_set W)) (required_set qs 0) x ≡ required_set qs (literal_set (wanted_at W x))
unfolding literal_set
need_is qs W zero = refl
need_is qs W (suc x) = rw (ne_eqb (suc x) 0 (λ e. omega arith)) refl

module _ (rs cs qs : List ℕ) (p : Option (List ℕ)) (a : List ℕ) (masks : MasksOf rs (records_in p) a) (acc : AcceptedParts rs cs qs p)
    (W : List Literal) (s : List ℕ) (head : HeadOk s) where
  abbrev D : Description
  D = describe rs cs qs p

  abbrev f : Layout
  f = layout_of D

  abbrev n : ℕ
  n = record_count s

  form_is : (x : ℕ) → x < n → form_of f s x ≡ form_at f s x
  form_is x h = ap (λ k. unless (node_form_test f k) 10 none) (sym (record_length s head x h))

  module _ (formed : (x : ℕ) → x < n → NodeForm f (length (record_at s x))) where
    labels : (y : ℕ) → y < n → (l : Literal) → label_at (graph_in f s) y l ≡ members (label_of f s y) l
    labels y h l = ap (λ N. members N l) (label_there s head f formed y h)

    node_is : (x : ℕ) → x < n → record_code a (role_count rs) cs qs (literal_set W) f s n x ≡ node_at_test D W s x
    unfolding node_tests node_refusal node_at_test
    node_is x h = rw (label_there s head f formed x h, edges_there s head f formed x h, graph_size f s) (
        unless_then _ _ 11 _ _ label (λ _.
        unless_then _ _ 12 _ _ both (λ _.
        unless_then _ _ 13 _ _ edges (λ pass. let u = sym edges ∙ pass in
        unless_then _ _ 14 _ _ (everys_are rs cs qs p (label_of f s) acc.1 n (label_at (graph_in f s)) labels (label_of f s x)
        (edges_part f s x) short u a masks acc.0 acc.2) (λ _.
        unless_then _ _ 15 _ _ (counts_are rs cs qs p (label_of f s) acc.1 n (label_at (graph_in f s)) labels (label_of f s x)
        (edges_part f s x) short u) (λ _. refl))))))
      where
        short : length (edges_part f s x) / 5 ≤ most_edges
        short = edges_few s head f formed x h

        label : label_code (entry_count cs) (label_of f s x) (need_of (required_set qs (literal_set W)) (required_set qs 0) x)
            ≡ label_test D (wanted_at W x) (label_of f s x)
        label = ap₂ (λ k K. label_code k (label_of f s x) K) (up_to_all most_entries (length cs / 6) acc.1) (need_is qs W x)
            ∙ label_is rs cs qs p acc.1 acc.2.rules_inside (wanted_at W x) (label_of f s x)

        both : all_below (entry_count cs) (both_at cs (label_of f s x)) ≡ both_test D (members (label_of f s x))
        both = ap (λ k. all_below k (both_at cs (label_of f s x))) (up_to_all most_entries (length cs / 6) acc.1)
            ∙ both_is rs cs qs p (label_of f s x)

        edges : edges_code a (up_to 16 (role_count rs)) n (edges_part f s x) ≡ each (edges_in (edges_part f s x)) (edge_test stored_graph D n)
        edges = let few = up_to_all 16 (length rs / 3) acc.0 in ap (λ k. edges_code a k n (edges_part f s x)) (ap (up_to 16) few ∙ few)
            ∙ edges_are rs cs qs p a (masks_plain rs (records_in p) a masks) acc.0
            (masks_compatible rs cs qs p a masks acc.0 acc.3 acc.2)
            (λ r q. anc_in D acc.2.parents_in r q) n (edges_part f s x) short

    records_are : refuse_from (record_code a (role_count rs) cs qs (literal_set W) f s n) n 0 none ≡ graph_refusal stored_graph D W (graph_in f s)
    records_are = records_cong (record_code a (role_count rs) cs qs (literal_set W) f s n) (node_at_test D W s) n 0 none (λ x _ h. node_is x (omega arith)) ∙ sym (rules_on D W s formed)

  -- a graph is read the same with and without the mark of a cell
  unmarked : records_code a (role_count rs) cs qs (literal_set W) s n
      ≡ refuse_from (form_of f s) n 0 (refuse_from (record_code a (role_count rs) cs qs (literal_set W) f s n) n 0 none)
  unfolding records_code node_form_test label_of edges_part
  unmarked = refl

  forms_are : records_code a (role_count rs) cs qs (literal_set W) s n ≡ refuse_from (form_at f s) n 0 (graph_refusal stored_graph D W (graph_in f s))
  forms_are = unmarked ∙ records_cong (form_of f s) (form_at f s) n 0 _ (λ x _ h. form_is x (omega arith))
      ∙ records_later (form_at f s) n 0 _ _ (λ pass. records_are (λ x h. (node_form↔ f _).0 ((unless↔ _ 10 none).0 (pass x (omega arith) (omega arith))).0))

-- 9 to 15, for accepted parts
pub graph_is : (rs cs qs : List ℕ) (p : Option (List ℕ)) (a : List ℕ) (W : List Literal) (s : List ℕ) → MasksOf rs (records_in p) a
    → parts_test rs cs qs p ≡ none → graph_code a (role_count rs) cs qs (literal_set W) s ≡ graph_tests (describe rs cs qs p) W s
unfolding graph_code graph_tests
graph_is rs cs qs p a W s masks e = refuse_then 0 (unless (graph_head s) 9 none) _ _ (λ h.
    forms_are rs cs qs p a masks (parts_accepted rs cs qs p e) W s
    ((head↔ s).0 (and_l (head_test s) _ ((unless↔ (graph_head s) 9 none).0 h).0)))
