-- Worked examples: both sides of each clause that the theorems alone do not pin.
use Rattle.std.specs.Prelude.{ℕ, ◌≡◌, refl, List, [], ◌∷◌, replicate}
use Rattle.std.proofs.Math.Option.{Option, none, some}
use Rattle.std.proofs.Common.{arith}
use Rattle.logic.specs.Bounded.{all_below, any_below}
use Rattle.logic.specs.Lists.{each, some?, tabulate}
use Rattle.logic.specs.Sums.{max_below}
use Rattle.logic.specs.Closure.{closure}
use Rattle.logic.specs.Sets.{has, nonempty, narrow, set_of}
use Rattle.logic.specs.Refusals.{Refusal, refuse_from}
use Rattle.description.specs.Literals.{Literal, pos, neg, members}
use Rattle.description.specs.Descriptions.{Entry, top, name, both, every, at_least, Description, compatible, same_entry, if_both, if_every, if_least}
use Rattle.description.specs.Roles.{ancestor}
use Rattle.description.specs.Examples.{under, transitive_under, disjoint_of, with_disjoint, table_of, bits}
use Rattle.graph.specs.Graphs.{Edge, Node, Graph, total, Keeps, GraphLimits}
use Rattle.graph.specs.GraphTests.{any_graph, stored_graph, label_test, both_test, edge_test, every_test, count_test}
use Rattle.graph.specs.GraphTests.{node_refusal, graph_refusal}
use Rattle.graph.specs.Line.{copies, joins, direct, pairs, line}

-- an edge by its target, mask and count
abbrev pub edge : ℕ → ℕ → ℕ → Edge
edge y m c = record { target = y; mask = m; count = c }

abbrev pub node : List ℕ → List Edge → Node
node ls es = record { label = bits ls; edges = es }

-- one role
abbrev plain : List Entry → Description
plain es = table_of (under 0 ∷ []) es (pos 0) []

abbrev tops : Description
tops = plain (top ∷ [])

-- literal 2 at least 2, 4 at least 3, 6 both (2, 5), 8 both (3, 4), as in P3
abbrev trial : Description
trial = plain (top ∷ at_least 0 (pos 0) 2 ∷ at_least 0 (pos 0) 3 ∷ both (pos 1) (neg 2) ∷ both (neg 1) (pos 2) ∷ [])

-- literal 2 a name, 4 at least 2 of it, 5 at most 1 of it, 7 some without it; 8 another name
abbrev few : Description
few = plain (top ∷ name ∷ at_least 0 (pos 1) 2 ∷ every 0 (pos 1) ∷ name ∷ [])

-- role 0 transitive, under role 1; literal 2 a name, 4 and 6 "every" of it on role 0 and on role 1
abbrev chained : Description
chained = table_of (transitive_under 2 ∷ under 0 ∷ []) (top ∷ name ∷ every 0 (pos 1) ∷ every 1 (pos 1) ∷ []) (pos 0) []

-- two roles that never share a filler
abbrev divided : Description
divided = with_disjoint (disjoint_of 1 0 ∷ []) (under 0 ∷ under 0 ∷ []) (top ∷ []) (pos 0) []

-- P3's graph with that count, and with that label at record 0
abbrev pair : List ℕ → ℕ → Graph
pair ls c = node ls (edge 1 1 c ∷ []) ∷ node (0 ∷ []) [] ∷ []

abbrev P3 : ℕ → Graph
P3 = pair (0 ∷ 2 ∷ 5 ∷ 6 ∷ [])

-- one record with literal 0 and that edge
abbrev loop : Edge → Graph
loop E = node (0 ∷ []) (E ∷ []) ∷ []

-- record 0 with that label and an edge of that mask to record 1 with that label
abbrev two : List ℕ → ℕ → List ℕ → Graph
two ls m ks = node ls (edge 1 m 1 ∷ []) ∷ node ks [] ∷ []

-- ---- refusals
record Row : Type 0 where
  limits : GraphLimits
  description : Description
  wanted : List Literal
  graph : Graph
  due : Option Refusal

abbrev row : GraphLimits → Description → List Literal → Graph → Option Refusal → Row
row lim D W G o = record { limits = lim; description = D; wanted = W; graph = G; due = o }

abbrev refused : ℕ → ℕ → Option Refusal
refused n x = some (record { number = n; place = x })

abbrev root : List Literal
root = pos 3 ∷ []

rows : List Row
rows =
    -- 11: the last literal of the table, and one past it; literal 0 missing
    row any_graph few [] (node (0 ∷ 9 ∷ []) [] ∷ []) none
    ∷ row any_graph few [] (node (0 ∷ 10 ∷ []) [] ∷ []) (refused 11 0)
    ∷ row any_graph few [] (node (2 ∷ []) [] ∷ []) (refused 11 0)
    -- what is wanted is wanted of record 0 alone (record 1 lacks it), before rule 12
    ∷ row any_graph trial (pos 1 ∷ neg 2 ∷ []) (pair (0 ∷ 2 ∷ 5 ∷ []) 2) none
    ∷ row any_graph trial root (node (0 ∷ []) [] ∷ []) (refused 11 0)
    ∷ row any_graph trial root (node (0 ∷ 8 ∷ []) [] ∷ []) (refused 11 0)
    ∷ row any_graph trial [] (node (0 ∷ 8 ∷ []) [] ∷ []) (refused 12 0)
    -- 12: both literals without the "both"
    ∷ row any_graph trial [] (pair (0 ∷ 2 ∷ 5 ∷ []) 2) none
    -- 13: the target a record; a mask not empty, of the table, with the ancestors of its roles; a count of 1 or more
    ∷ row any_graph tops [] (loop (edge 0 1 1)) none
    ∷ row any_graph tops [] (loop (edge 1 1 1)) (refused 13 0)
    ∷ row any_graph tops [] (loop (edge 0 0 1)) (refused 13 0)
    ∷ row any_graph tops [] (loop (edge 0 3 1)) (refused 13 0)
    ∷ row any_graph tops [] (loop (edge 0 1 0)) (refused 13 0)
    ∷ row any_graph chained [] (loop (edge 0 2 1)) none
    ∷ row any_graph chained [] (loop (edge 0 3 1)) none
    ∷ row any_graph chained [] (loop (edge 0 1 1)) (refused 13 0)
    -- 13: no edge has two roles that never share a filler; two edges to one record may
    ∷ row any_graph divided [] (loop (edge 0 1 1)) none
    ∷ row any_graph divided [] (loop (edge 0 2 1)) none
    ∷ row any_graph divided [] (loop (edge 0 3 1)) (refused 13 0)
    ∷ row any_graph divided [] (node (0 ∷ []) (edge 0 1 1 ∷ edge 0 2 1 ∷ []) ∷ []) none
    -- 13 before 14, 14 before 15; but an earlier record comes before a smaller number
    ∷ row any_graph chained [] (node (0 ∷ 7 ∷ []) (edge 0 1 1 ∷ []) ∷ []) (refused 13 0)
    ∷ row any_graph few [] (node (0 ∷ 4 ∷ 7 ∷ []) [] ∷ []) (refused 14 0)
    ∷ row any_graph few [] (node (0 ∷ 4 ∷ []) [] ∷ node [] [] ∷ []) (refused 15 0)
    ∷ row any_graph few [] (node (0 ∷ []) [] ∷ node [] [] ∷ []) (refused 11 1)
    -- the limit of a count belongs to 13: after 12, before 15
    ∷ row stored_graph tops [] (loop (edge 0 1 1000)) none
    ∷ row stored_graph tops [] (loop (edge 0 1 1001)) (refused 13 0)
    ∷ row any_graph tops [] (loop (edge 0 1 1001)) none
    ∷ row stored_graph trial [] (pair (0 ∷ 8 ∷ []) 1001) (refused 12 0)
    ∷ row stored_graph trial root (P3 1001) (refused 13 0)
    ∷ row any_graph trial root (P3 1001) (refused 15 0)
    -- the limit of the edges belongs to 10, which comes before an 11 of an earlier record
    ∷ row stored_graph tops [] (node [] [] ∷ node (0 ∷ []) (replicate 32 (edge 0 1 1)) ∷ []) (refused 11 0)
    ∷ row stored_graph tops [] (node [] [] ∷ node (0 ∷ []) (replicate 33 (edge 0 1 1)) ∷ []) (refused 10 1)
    ∷ row any_graph tops [] (node (0 ∷ []) (replicate 33 (edge 0 1 1)) ∷ []) none
    -- 14: on an edge of role 1 alone "every" passes its literal on, on one of role 0 too the "every" of role 0 as well
    ∷ row any_graph chained [] (two (0 ∷ 6 ∷ []) 2 (0 ∷ [])) (refused 14 0)
    ∷ row any_graph chained [] (two (0 ∷ 6 ∷ []) 2 (0 ∷ 2 ∷ [])) none
    ∷ row any_graph chained [] (two (0 ∷ 6 ∷ []) 3 (0 ∷ 2 ∷ [])) (refused 14 0)
    ∷ row any_graph chained [] (two (0 ∷ 6 ∷ []) 3 (0 ∷ 4 ∷ [])) (refused 14 0)
    ∷ row any_graph chained [] (two (0 ∷ 6 ∷ []) 3 (0 ∷ 2 ∷ 4 ∷ [])) none
    -- its complement: a target lacks the literal by holding the opposite
    ∷ row any_graph chained [] (two (0 ∷ 7 ∷ []) 2 (0 ∷ [])) (refused 14 0)
    ∷ row any_graph chained [] (two (0 ∷ 7 ∷ []) 2 (0 ∷ 3 ∷ [])) none
    -- 15: under "at most" each target has the literal or its opposite
    ∷ row any_graph few [] (two (0 ∷ 5 ∷ []) 1 (0 ∷ [])) (refused 15 0)
    ∷ row any_graph few [] (two (0 ∷ 5 ∷ []) 1 (0 ∷ 2 ∷ [])) none
    ∷ row any_graph few [] (two (0 ∷ 5 ∷ []) 1 (0 ∷ 3 ∷ [])) none
    -- under "at least" a further target need not; and counts may reach n without the "at least"
    ∷ row any_graph few [] (node (0 ∷ 4 ∷ []) (edge 1 1 2 ∷ edge 2 1 1 ∷ []) ∷ node (0 ∷ 2 ∷ []) [] ∷ node (0 ∷ []) [] ∷ []) none
    ∷ row any_graph few [] (node (0 ∷ []) (edge 1 1 2 ∷ []) ∷ node (0 ∷ 2 ∷ []) [] ∷ []) none
    ∷ []

given : List Row → List (Option Refusal)
given [] = []
given (x ∷ xs) = graph_refusal x.limits x.description x.wanted x.graph ∷ given xs

dues : List Row → List (Option Refusal)
dues [] = []
dues (x ∷ xs) = x.due ∷ dues xs

refusals : given rows ≡ dues rows
unfolding rows given dues graph_refusal node_refusal refuse_from label_test both_test edge_test compatible every_test count_test total
    members has nonempty narrow all_below each some? if_both if_every if_least same_entry ancestor closure
refusals = refl

-- a graph of no record keeps no rules
no_node : (D : Description) (W : List Literal) → Keeps D W [] → ⊥
no_node D W k = omega (arith, k.some_node)

-- ---- lines
-- for each element the set of its fillers, and the set of its names
abbrev fillers : Description → Graph → ℕ → List ℕ
fillers D G r = tabulate (line D G).size (λ z. set_of (line D G).size ((line D G).role r z))

abbrev names : Description → Graph → List ℕ
names D G = tabulate (line D G).size (λ z. set_of D.entries (λ e. (line D G).name e z))

-- a name in the label is a name of each copy; no other entry is
named : names few (two (0 ∷ 2 ∷ 4 ∷ []) 1 (0 ∷ 4 ∷ [])) ≡ (bits (1 ∷ []) ∷ 0 ∷ [])
unfolding copies max_below total tabulate set_of members has
named = refl

-- two edges to one record, the first of both roles: K is the sum of their counts, and they take different copies, whatever stands between them
abbrev apart : List Edge → Graph
apart es = node (0 ∷ []) (edge 1 3 1 ∷ es) ∷ node (0 ∷ []) [] ∷ []

next_copies : (fillers chained (apart (edge 1 2 2 ∷ [])) 0 ≡ (bits (3 ∷ []) ∷ bits (3 ∷ []) ∷ bits (3 ∷ []) ∷ 0 ∷ 0 ∷ 0 ∷ []))
    × (fillers chained (apart (edge 1 2 2 ∷ [])) 1
    ≡ (bits (3 ∷ 4 ∷ 5 ∷ []) ∷ bits (3 ∷ 4 ∷ 5 ∷ []) ∷ bits (3 ∷ 4 ∷ 5 ∷ []) ∷ 0 ∷ 0 ∷ 0 ∷ []))
    × (fillers chained (apart (edge 0 2 1 ∷ edge 1 2 1 ∷ [])) 1 ≡ (bits (0 ∷ 2 ∷ 3 ∷ []) ∷ bits (0 ∷ 2 ∷ 3 ∷ []) ∷ 0 ∷ 0 ∷ []))
unfolding copies max_below total tabulate set_of pairs direct joins has any_below ancestor closure
next_copies = (refl, refl, refl)

-- a chain of three records: a transitive role is closed, and its ancestor has what that adds but is not closed itself
abbrev chain : ℕ → Graph
chain m = node (0 ∷ []) (edge 1 m 1 ∷ []) ∷ node (0 ∷ []) (edge 2 m 1 ∷ []) ∷ node (0 ∷ []) [] ∷ []

closed : (fillers chained (chain 3) 0 ≡ (bits (1 ∷ 2 ∷ []) ∷ bits (2 ∷ []) ∷ 0 ∷ []))
    × (fillers chained (chain 3) 1 ≡ (bits (1 ∷ 2 ∷ []) ∷ bits (2 ∷ []) ∷ 0 ∷ []))
    × (fillers chained (chain 2) 0 ≡ (0 ∷ 0 ∷ 0 ∷ [])) × (fillers chained (chain 2) 1 ≡ (bits (1 ∷ []) ∷ bits (2 ∷ []) ∷ 0 ∷ []))
unfolding copies max_below total tabulate set_of pairs direct joins has any_below ancestor closure
closed = (refl, refl, refl, refl)
