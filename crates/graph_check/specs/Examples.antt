-- Worked examples: bytes of a description and of evidence, and the answer; each test on both sides. (P1 to P10 stand in trials/Trials.)
use Rattle.std.specs.Prelude.{ℕ, ◌+◌, ◌*◌, ◌/◌, ◌%◌, ◌≡◌, refl, List, [], ◌∷◌, ◌++◌, map, length, replicate}
use Rattle.std.proofs.Math.Option.{Option, none, some}
use Rattle.logic.specs.Bounded.{all_below, any_below}
use Rattle.logic.specs.Closure.{closure}
use Rattle.logic.specs.Lists.{each, some?, tabulate}
use Rattle.logic.specs.Refusals.{Refusal, refuse_from}
use Rattle.logic.specs.Sets.{has, narrow, nonempty}
use Rattle.parts.specs.Pairs.{fills, fills_from}
use Rattle.description.specs.Literals.{literal, members}
use Rattle.description.specs.Descriptions.{compatible, entry_from, same_entry, if_both, if_every, if_least}
use Rattle.description.specs.Roles.{ancestor, simple}
use Rattle.description.specs.Acceptance.{entry_test, description_tests}
use Rattle.graph.specs.Graphs.{total}
use Rattle.graph.specs.GraphTests.{label_test, both_test, edge_test, every_test, count_test, node_refusal, graph_refusal}
use Rattle.intake.specs.Intake.{sizes_test, parts_test, bytes_test}
use Rattle.labels.specs.Labels.{label_bytes, label_in}
use Rattle.evidence.specs.Evidence.{head_test, node_form_test}
use Rattle.graph_check.specs.GraphEvidence.{graph_tests, graph_refused}

record Trial : Type 0 where
  pub description : List ℕ
  pub evidence : List ℕ
  pub told : Option Refusal

abbrev number : ℕ → List ℕ
number n = n / 256 ∷ n % 256 ∷ []

-- the pairs of parts that lie one behind the other from `at` on, and the parts behind them
abbrev pairs : ℕ → List (List ℕ) → List ℕ
pairs at [] = []
pairs at (p ∷ ps) = number at ++ number (length p) ++ pairs (at + length p) ps

abbrev laid : List (List ℕ) → List ℕ
laid [] = []
laid (p ∷ ps) = p ++ laid ps

abbrev with_pairs : List (List ℕ) → List ℕ
with_pairs ps = pairs (4 * length ps) ps ++ laid ps

-- three parts, and four
abbrev pub parts : List ℕ → List ℕ → List ℕ → List ℕ
parts roles concepts query = with_pairs (roles ∷ concepts ∷ query ∷ [])

abbrev pub four_parts : List ℕ → List ℕ → List ℕ → List ℕ → List ℕ
four_parts roles concepts query records = with_pairs (roles ∷ concepts ∷ query ∷ records ∷ [])

abbrev pub entry : ℕ → ℕ → ℕ → ℕ → ℕ → List ℕ
entry kind r first second n = kind ∷ r ∷ first ∷ second ∷ number n

-- a record with a label below 65,536, and an edge
abbrev pub node : ℕ → List ℕ → List ℕ
node label edges = replicate 6 0 ++ number label ++ edges

abbrev pub edge : ℕ → ℕ → ℕ → List ℕ
edge target mask count = target ∷ number mask ++ number count

-- a graph of one record, and of two
abbrev pub one : List ℕ → List ℕ
one a = 1 ∷ 1 ∷ number 6 ++ number (length a) ++ a

abbrev pub two : List ℕ → List ℕ → List ℕ
two a b = 1 ∷ 2 ∷ number 10 ++ number (length a) ++ number (10 + length a) ++ number (length b) ++ a ++ b

abbrev inhabited : Option Refusal
inhabited = none

abbrev refused : ℕ → ℕ → Option Refusal
refused n r = some (record { number = n; place = r })

-- byte by byte: one role, the entry top, the root top
abbrev pub first : List ℕ
first = 0 ∷ 12 ∷ 0 ∷ 3 ∷ 0 ∷ 15 ∷ 0 ∷ 6 ∷ 0 ∷ 21 ∷ 0 ∷ 1 ∷ 0 ∷ 0 ∷ 0 ∷ 0 ∷ 0 ∷ 0 ∷ 0 ∷ 0 ∷ 0 ∷ 0 ∷ []

-- the table of P3: "at least 2" and "at least 3" of top, both(2, 5), both(3, 4); the root is 6
abbrev pub third : List ℕ
third = parts (0 ∷ 0 ∷ 0 ∷ []) (entry 0 0 0 0 0 ++ entry 4 0 0 0 2 ++ entry 4 0 0 0 3 ++ entry 2 0 2 5 0 ++ entry 2 0 3 4 0) (6 ∷ [])

-- a node {0, 2, 5, 6} with `count` fillers, to a node {0}
abbrev pub filled : ℕ → List ℕ
filled count = two (node 101 (edge 1 1 count)) (node 1 [])

-- role 0 is transitive below role 1; a name, "every 1 name", "every 0 name"; the root is the first "every"
abbrev every : List ℕ
every = parts (1 ∷ 0 ∷ 2 ∷ 0 ∷ 0 ∷ 0 ∷ []) (entry 0 0 0 0 0 ++ entry 1 0 0 0 0 ++ entry 3 1 2 0 0 ++ entry 3 0 2 0 0) (4 ∷ [])

-- the same table; the root is the complement of the first "every"
abbrev lacking : List ℕ
lacking = parts (1 ∷ 0 ∷ 2 ∷ 0 ∷ 0 ∷ 0 ∷ []) (entry 0 0 0 0 0 ++ entry 1 0 0 0 0 ++ entry 3 1 2 0 0 ++ entry 3 0 2 0 0) (5 ∷ [])

-- n roles without an inclusion, the entry top, the root top, and records of roles that never share a filler
abbrev pub apart : ℕ → List ℕ → List ℕ
apart n records = four_parts (replicate (3 * n) 0) (entry 0 0 0 0 0) (0 ∷ []) records

-- byte by byte: two roles, the entry top, the root top, the record (0, 1)
abbrev split : List ℕ
split = 0 ∷ 16 ∷ 0 ∷ 6 ∷ 0 ∷ 22 ∷ 0 ∷ 6 ∷ 0 ∷ 28 ∷ 0 ∷ 1 ∷ 0 ∷ 29 ∷ 0 ∷ 2
    ∷ 0 ∷ 0 ∷ 0 ∷ 0 ∷ 0 ∷ 0 ∷ 0 ∷ 0 ∷ 0 ∷ 0 ∷ 0 ∷ 0 ∷ 0 ∷ 0 ∷ 1 ∷ []

abbrev trial : List ℕ → List ℕ → Option Refusal → Trial
trial d s t = record { description = d; evidence = s; told = t }

trials : List Trial
trials =
    -- 9: a closing list is no graph here; a byte behind the last record
    trial first (2 ∷ 1 ∷ number 6 ++ number 8 ++ node 1 []) (refused 9 0)
    ∷ trial first (one (node 1 []) ++ 0 ∷ []) (refused 9 0)
    -- 15: the counts of two edges to one node are added, and of edges to two nodes; no filler is too few, three are too many
    ∷ trial third (two (node 101 (edge 1 1 1 ++ edge 1 1 1)) (node 1 [])) inhabited
    ∷ trial third (two (node 101 (edge 0 1 1 ++ edge 1 1 1)) (node 1 [])) inhabited
    ∷ trial third (two (node 101 []) (node 1 [])) (refused 15 0)
    ∷ trial third (two (node 101 (edge 0 1 1 ++ edge 1 1 2)) (node 1 [])) (refused 15 0)
    -- 10: a label cut short, part of an edge; of record 1 before 11 of record 0
    ∷ trial first (one (replicate 7 0)) (refused 10 0)
    ∷ trial first (one (node 1 (0 ∷ []))) (refused 10 0)
    ∷ trial first (two (node 0 []) (replicate 7 0)) (refused 10 1)
    -- 11: without literal 0, past the table, a literal with its opposite, without the root; in record 1, where the root is not asked for
    ∷ trial first (one (node 0 [])) (refused 11 0)
    ∷ trial first (one (node 5 [])) (refused 11 0)
    ∷ trial first (one (node 3 [])) (refused 11 0)
    ∷ trial third (two (node 37 (edge 1 1 2)) (node 1 [])) (refused 11 0)
    ∷ trial third (two (node 101 (edge 1 1 2)) (node 3 [])) (refused 11 1)
    -- a target's label is read as it stands, before its own record is tested
    ∷ trial third (two (node 101 (edge 1 1 2)) (node 0 [])) (refused 15 0)
    -- 12: both(2, 5) without 5; without a part denied
    ∷ trial third (two (node 69 (edge 1 1 2)) (node 1 [])) (refused 12 0)
    ∷ trial third (two (node 101 (edge 1 1 2)) (node 129 [])) (refused 12 1)
    -- 13: no such target, no role, a role past the table, no filler, 1,001 fillers
    ∷ trial third (two (node 101 (edge 2 1 2)) (node 1 [])) (refused 13 0)
    ∷ trial third (two (node 101 (edge 1 0 2)) (node 1 [])) (refused 13 0)
    ∷ trial third (two (node 101 (edge 1 3 2)) (node 1 [])) (refused 13 0)
    ∷ trial third (filled 0) (refused 13 0)
    ∷ trial third (filled 1001) (refused 13 0)
    ∷ trial first (one (node 1 (edge 0 1 1000))) inhabited
    -- 13: a role without its ancestor. 14: "every 1 name" passes the name, and "every 0 name" along role 0
    ∷ trial every (two (node 17 (edge 1 1 1)) (node 69 [])) (refused 13 0)
    ∷ trial every (two (node 17 (edge 1 3 1)) (node 69 [])) inhabited
    ∷ trial every (two (node 17 (edge 1 3 1)) (node 5 [])) (refused 14 0)
    ∷ trial every (two (node 17 (edge 1 3 1)) (node 65 [])) (refused 14 0)
    ∷ trial every (two (node 17 (edge 1 2 1)) (node 5 [])) inhabited
    -- 14: the complement of "every" wants a filler with the opposite
    ∷ trial every (two (node 145 []) (node 9 [])) (refused 14 0)
    ∷ trial every (two (node 145 (edge 1 2 1)) (node 5 [])) (refused 14 0)
    ∷ trial lacking (two (node 33 (edge 1 2 1)) (node 9 [])) inhabited
    ∷ trial lacking (two (node 33 (edge 1 2 1)) (node 1 [])) (refused 14 0)
    -- 13: roles 0 and 1 never share a filler: an edge with both, one with each, the second edge with both, one of record 1 with both
    ∷ trial split (one (node 1 (edge 0 3 1))) (refused 13 0)
    ∷ trial (apart 2 (0 ∷ 1 ∷ [])) (one (node 1 (edge 0 1 1 ++ edge 0 2 1))) inhabited
    ∷ trial (apart 2 (0 ∷ 1 ∷ [])) (one (node 1 (edge 0 1 1 ++ edge 0 3 1))) (refused 13 0)
    ∷ trial (apart 2 (0 ∷ 1 ∷ [])) (two (node 1 (edge 1 2 1)) (node 1 (edge 0 3 1))) (refused 13 1)
    -- 13: the second record, and two roles that no record names together
    ∷ trial (apart 3 (0 ∷ 1 ∷ 2 ∷ 1 ∷ [])) (one (node 1 (edge 0 6 1))) (refused 13 0)
    ∷ trial (apart 3 (0 ∷ 1 ∷ 2 ∷ 1 ∷ [])) (one (node 1 (edge 0 5 1))) inhabited
    -- without records, with four pairs and with three, an edge may have both
    ∷ trial (apart 2 []) (one (node 1 (edge 0 3 1))) inhabited
    ∷ trial (parts (replicate 6 0) (entry 0 0 0 0 0) (0 ∷ [])) (one (node 1 (edge 0 3 1))) inhabited
    ∷ []

trials_hold : map (λ t. graph_refused t.description t.evidence) trials ≡ map (λ t. t.told) trials
unfolding trials graph_refused graph_tests graph_refusal refuse_from head_test node_form_test label_bytes label_in node_refusal label_test both_test
    edge_test compatible every_test count_test total each some? tabulate members nonempty bytes_test parts_test sizes_test fills fills_from
    description_tests all_below any_below narrow entry_test literal entry_from if_both if_least if_every simple ancestor closure has same_entry
trials_hold = refl
