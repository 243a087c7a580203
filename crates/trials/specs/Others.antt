-- Two examples of 01 ("Others") in bytes: the four limits of document 001, section 2.2.3, and one that fractions solve and no fillers do.
-- Their descriptions are bytes, their evidence is data, encoded.
use Rattle.std.specs.Prelude.{ℕ, suc, ◌≡◌, refl, Bool, not, cond, eqb}
use mathlib.Core.List.{List, [], ◌∷◌, ◌++◌, map, flatten}
use Rattle.logic.specs.Lists.{tabulate}
use Rattle.logic.specs.Sets.{has}
use Rattle.counting.specs.Trees.{Tree, leaf, live}
use Rattle.counting.specs.Examples.{abc, abc_open, abc_tree}
use Rattle.description.specs.Literals.{literal}
use Rattle.description.specs.Descriptions.{wanted}
use Rattle.interpretation.specs.Meaning.{Interpretation}
use Rattle.interpretation.specs.Models.{Model, Satisfies}
use Rattle.graph.specs.Graphs.{Graph}
use Rattle.graph.specs.Line.{line}
use Rattle.graph.specs.Examples.{edge, node}
use Rattle.refutation.specs.Cells.{rows_of, bounds}
use Rattle.refutation.specs.Records.{Cell, unshown, cited, conjunction, disjunction, Refutation, open_at}
use Rattle.refutation.specs.Examples.{none_has, clash, count}
use Rattle.encoding.specs.Bundles.{bundle}
use Rattle.laying.specs.Numbers.{label}
use Rattle.encoding.specs.Nodes.{encode_node}
use Rattle.encoding.specs.Trees.{encode_tree}
use Rattle.encoding.specs.Steps.{encode_step}
use Rattle.encoding.specs.Encoding.{encode_graph, encode_record, encode_refutation}
use Rattle.intake.specs.Intake.{described}
use Rattle.evidence.specs.Evidence.{layout_of}
use Rattle.answers.specs.Answers.{REFUSED, INHABITED, EMPTY}
use Rattle.demands.specs.Exact.{graph_of}
use Rattle.demands.proofs.True.{inhabited_true, empty_true}
use Rattle.trials.specs.Trials.{Trial, checks, Outcome, tells, outcome, told}

-- records 0 to 2 of both refutations: names A 2, B 4 and C 6 with their complements
abbrev names : Refutation
names = none_has (2 ∷ 3 ∷ []) (clash 2) ∷ none_has (4 ∷ 5 ∷ []) (clash 4) ∷ none_has (6 ∷ 7 ∷ []) (clash 6) ∷ []

-- ---- at most 1 B and C, fewer than `more` A, at least 2 A and B, at least 2 A and C
-- names A 2, B 4, C 6; 8 B and C; 10 A and B; 12 A and C; the limits 15, 17, 18, 20; 26 all four, the root
pub four : ℕ → List ℕ
four more =
    0 ∷ 12 ∷ 0 ∷ 3 ∷ 0 ∷ 15 ∷ 0 ∷ 84 ∷ 0 ∷ 99 ∷ 0 ∷ 1
    ∷ 0 ∷ 0 ∷ 0
    ∷ 0 ∷ 0 ∷ 0 ∷ 0 ∷ 0 ∷ 0
    ∷ 1 ∷ 0 ∷ 0 ∷ 0 ∷ 0 ∷ 0
    ∷ 1 ∷ 0 ∷ 0 ∷ 0 ∷ 0 ∷ 0
    ∷ 1 ∷ 0 ∷ 0 ∷ 0 ∷ 0 ∷ 0
    ∷ 2 ∷ 0 ∷ 4 ∷ 6 ∷ 0 ∷ 0
    ∷ 2 ∷ 0 ∷ 2 ∷ 4 ∷ 0 ∷ 0
    ∷ 2 ∷ 0 ∷ 2 ∷ 6 ∷ 0 ∷ 0
    ∷ 4 ∷ 0 ∷ 8 ∷ 0 ∷ 0 ∷ 2
    ∷ 4 ∷ 0 ∷ 2 ∷ 0 ∷ 0 ∷ more
    ∷ 4 ∷ 0 ∷ 10 ∷ 0 ∷ 0 ∷ 2
    ∷ 4 ∷ 0 ∷ 12 ∷ 0 ∷ 0 ∷ 2
    ∷ 2 ∷ 0 ∷ 15 ∷ 17 ∷ 0 ∷ 0
    ∷ 2 ∷ 0 ∷ 18 ∷ 20 ∷ 0 ∷ 0
    ∷ 2 ∷ 0 ∷ 22 ∷ 24 ∷ 0 ∷ 0
    ∷ 26 ∷ []

-- three fillers: A, B and C; A and B alone; A and C alone
pub four_graph : Graph
four_graph =
    node (0 ∷ 15 ∷ 17 ∷ 18 ∷ 20 ∷ 22 ∷ 24 ∷ 26 ∷ []) (edge 1 1 1 ∷ edge 2 1 1 ∷ edge 3 1 1 ∷ [])
    ∷ node (0 ∷ 2 ∷ 4 ∷ 6 ∷ 8 ∷ 10 ∷ 12 ∷ []) []
    ∷ node (0 ∷ 2 ∷ 4 ∷ 7 ∷ 9 ∷ 10 ∷ []) []
    ∷ node (0 ∷ 2 ∷ 5 ∷ 6 ∷ 9 ∷ 12 ∷ []) []
    ∷ []

-- the open cells are 1 (B and C), 2 (A), 6 (A and B), 10 (A and C) and 15
four_cells : List Cell
four_cells =
    unshown ∷ unshown ∷ cited 7 ∷ cited 3 ∷ cited 3 ∷ unshown ∷ cited 8 ∷ cited 4
    ∷ cited 4 ∷ unshown ∷ cited 7 ∷ cited 3 ∷ cited 3 ∷ cited 11 ∷ unshown ∷ []

four_list : Refutation
four_list =
    names ++ (
    -- 3: A and B without A; A and C without A; B and C without B, without C
    none_has (3 ∷ 10 ∷ []) (conjunction 5 0)
    ∷ none_has (3 ∷ 12 ∷ []) (conjunction 6 0)
    ∷ none_has (5 ∷ 8 ∷ []) (conjunction 4 1)
    ∷ none_has (7 ∷ 8 ∷ []) (conjunction 4 2)
    -- 7: A, and B and C, but not A and B; not A and C
    ∷ none_has (2 ∷ 8 ∷ 11 ∷ []) (disjunction 5 0 5)
    ∷ none_has (2 ∷ 8 ∷ 13 ∷ []) (disjunction 6 0 6)
    -- 9: A and B without B; A and C without C; both, but not B and C
    ∷ none_has (5 ∷ 10 ∷ []) (conjunction 5 1)
    ∷ none_has (7 ∷ 12 ∷ []) (conjunction 6 2)
    ∷ none_has (9 ∷ 10 ∷ 12 ∷ []) (disjunction 4 9 10)
    -- 12: the four limits, and the class
    ∷ none_has (15 ∷ 17 ∷ 18 ∷ 20 ∷ []) (count (15 ∷ 17 ∷ 18 ∷ 20 ∷ []) four_cells (leaf (1 ∷ 1 ∷ 1 ∷ 1 ∷ [])))
    ∷ none_has (15 ∷ 17 ∷ 24 ∷ []) (conjunction 12 12)
    ∷ none_has (22 ∷ 24 ∷ []) (conjunction 11 13)
    ∷ none_has (26 ∷ []) (conjunction 13 14)
    ∷ [])

-- ---- one A, one B and one C in all, and every filler is two of the three
-- names A 2, B 4, C 6; A and B 8, without C 10; A and C 12, without B 14; B and C 16, without A 18; 23 one of 10, 14, 18; 24 every filler has 23;
-- 26, 30 and 34 at least one A, B and C, 29, 33 and 37 at most one; 38, 40 and 42 exactly one; 48 all, the root
pub pairs : List ℕ
pairs =
    0 ∷ 12 ∷ 0 ∷ 3 ∷ 0 ∷ 15 ∷ 0 ∷ 150 ∷ 0 ∷ 165 ∷ 0 ∷ 1
    ∷ 0 ∷ 0 ∷ 0
    ∷ 0 ∷ 0 ∷ 0 ∷ 0 ∷ 0 ∷ 0
    ∷ 1 ∷ 0 ∷ 0 ∷ 0 ∷ 0 ∷ 0
    ∷ 1 ∷ 0 ∷ 0 ∷ 0 ∷ 0 ∷ 0
    ∷ 1 ∷ 0 ∷ 0 ∷ 0 ∷ 0 ∷ 0
    ∷ 2 ∷ 0 ∷ 2 ∷ 4 ∷ 0 ∷ 0
    ∷ 2 ∷ 0 ∷ 8 ∷ 7 ∷ 0 ∷ 0
    ∷ 2 ∷ 0 ∷ 2 ∷ 6 ∷ 0 ∷ 0
    ∷ 2 ∷ 0 ∷ 12 ∷ 5 ∷ 0 ∷ 0
    ∷ 2 ∷ 0 ∷ 4 ∷ 6 ∷ 0 ∷ 0
    ∷ 2 ∷ 0 ∷ 16 ∷ 3 ∷ 0 ∷ 0
    ∷ 2 ∷ 0 ∷ 11 ∷ 15 ∷ 0 ∷ 0
    ∷ 2 ∷ 0 ∷ 20 ∷ 19 ∷ 0 ∷ 0
    ∷ 3 ∷ 0 ∷ 23 ∷ 0 ∷ 0 ∷ 0
    ∷ 4 ∷ 0 ∷ 2 ∷ 0 ∷ 0 ∷ 1
    ∷ 4 ∷ 0 ∷ 2 ∷ 0 ∷ 0 ∷ 2
    ∷ 4 ∷ 0 ∷ 4 ∷ 0 ∷ 0 ∷ 1
    ∷ 4 ∷ 0 ∷ 4 ∷ 0 ∷ 0 ∷ 2
    ∷ 4 ∷ 0 ∷ 6 ∷ 0 ∷ 0 ∷ 1
    ∷ 4 ∷ 0 ∷ 6 ∷ 0 ∷ 0 ∷ 2
    ∷ 2 ∷ 0 ∷ 26 ∷ 29 ∷ 0 ∷ 0
    ∷ 2 ∷ 0 ∷ 30 ∷ 33 ∷ 0 ∷ 0
    ∷ 2 ∷ 0 ∷ 34 ∷ 37 ∷ 0 ∷ 0
    ∷ 2 ∷ 0 ∷ 38 ∷ 40 ∷ 0 ∷ 0
    ∷ 2 ∷ 0 ∷ 42 ∷ 24 ∷ 0 ∷ 0
    ∷ 2 ∷ 0 ∷ 44 ∷ 46 ∷ 0 ∷ 0
    ∷ 48 ∷ []

-- the rows: at least 1 A, at most 1 A; 30 and 33 the same of B; 34 and 37 of C
pub pairs_rows : List ℕ
pairs_rows = 26 ∷ 29 ∷ 30 ∷ 33 ∷ 34 ∷ 37 ∷ []

-- a cell in one of the rows i and i + 1 alone
one_of : ℕ → ℕ → Bool
one_of c i = cond (has c i) (not (has c (suc i))) (has c (suc i))

-- the cells of A alone, B alone, C alone and all three are empty too; those of two names, 15, 51 and 60, are open
pairs_cell : ℕ → Cell
pairs_cell c = cond (one_of c 0) (cited 0) (cond (one_of c 2) (cited 1) (cond (one_of c 4) (cited 2)
    (cond (eqb c 3) (cited 19) (cond (eqb c 12) (cited 21) (cond (eqb c 48) (cited 22) (cond (eqb c 63) (cited 24) unshown))))))

pub pairs_cells : List Cell
pairs_cells = tabulate 63 (λ i. pairs_cell (suc i))

pairs_list : Tree → Refutation
pairs_list tree =
    names ++ (
    -- 3: two names without one of them
    none_has (3 ∷ 8 ∷ []) (conjunction 4 0)
    ∷ none_has (5 ∷ 8 ∷ []) (conjunction 4 1)
    ∷ none_has (3 ∷ 12 ∷ []) (conjunction 6 0)
    ∷ none_has (7 ∷ 12 ∷ []) (conjunction 6 2)
    ∷ none_has (5 ∷ 16 ∷ []) (conjunction 8 1)
    ∷ none_has (7 ∷ 16 ∷ []) (conjunction 8 2)
    -- 9: two names and not the third, without one of the two or with the third
    ∷ none_has (3 ∷ 10 ∷ []) (conjunction 5 3)
    ∷ none_has (5 ∷ 10 ∷ []) (conjunction 5 4)
    ∷ none_has (6 ∷ 10 ∷ []) (conjunction 5 2)
    ∷ none_has (3 ∷ 14 ∷ []) (conjunction 7 5)
    ∷ none_has (7 ∷ 14 ∷ []) (conjunction 7 6)
    ∷ none_has (4 ∷ 14 ∷ []) (conjunction 7 1)
    ∷ none_has (5 ∷ 18 ∷ []) (conjunction 9 7)
    ∷ none_has (7 ∷ 18 ∷ []) (conjunction 9 8)
    ∷ none_has (2 ∷ 18 ∷ []) (conjunction 9 0)
    -- 18: exactly two names, without B and C; 20: without A and C, without A and B; 23: with all three
    ∷ none_has (5 ∷ 7 ∷ 21 ∷ []) (disjunction 10 10 13)
    ∷ none_has (5 ∷ 7 ∷ 23 ∷ []) (disjunction 11 18 15)
    ∷ none_has (3 ∷ 21 ∷ []) (disjunction 10 9 12)
    ∷ none_has (3 ∷ 7 ∷ 23 ∷ []) (disjunction 11 20 16)
    ∷ none_has (3 ∷ 5 ∷ 23 ∷ []) (disjunction 11 20 15)
    ∷ none_has (4 ∷ 6 ∷ 21 ∷ []) (disjunction 10 11 14)
    ∷ none_has (2 ∷ 4 ∷ 6 ∷ 23 ∷ []) (disjunction 11 23 17)
    -- 25: the limits; then, one by one, the class
    ∷ none_has (24 ∷ pairs_rows) (count pairs_rows pairs_cells tree)
    ∷ none_has (24 ∷ 26 ∷ 29 ∷ 30 ∷ 33 ∷ 42 ∷ []) (conjunction 21 25)
    ∷ none_has (24 ∷ 26 ∷ 29 ∷ 40 ∷ 42 ∷ []) (conjunction 20 26)
    ∷ none_has (24 ∷ 38 ∷ 40 ∷ 42 ∷ []) (conjunction 19 27)
    ∷ none_has (38 ∷ 40 ∷ 46 ∷ []) (conjunction 23 28)
    ∷ none_has (44 ∷ 46 ∷ []) (conjunction 22 29)
    ∷ none_has (48 ∷ []) (conjunction 24 30)
    ∷ [])

-- ---- the table
abbrev sampled : List ℕ → Graph → Trial
sampled d G = checks d (encode_graph (layout_of (described d)) G)

abbrev refuted : List ℕ → Refutation → Trial
refuted d C = checks d (encode_refutation (layout_of (described d)) C)

pub others : List (Trial × Outcome)
unfolding four four_graph four_cells four_list pairs one_of pairs_cell pairs_cells pairs_rows pairs_list abc_tree tabulate
others =
    -- with at most 3 A the graph passes and the leaf does not close, with at most 2 the other way about
    (sampled (four 4) four_graph, tells (told INHABITED 0 0))
    ∷ (refuted (four 4) four_list, tells (told REFUSED 19 12))
    ∷ (sampled (four 3) four_graph, tells (told REFUSED 15 0))
    ∷ (refuted (four 3) four_list, tells (told EMPTY 0 0))
    -- one split closes the rows; without one the leaf stays open
    ∷ (refuted pairs (pairs_list abc_tree), tells (told EMPTY 0 0))
    ∷ (refuted pairs (pairs_list (leaf (1 ∷ 0 ∷ 1 ∷ 0 ∷ 0 ∷ 1 ∷ []))), tells (told REFUSED 19 25))
    ∷ []

pub others_hold : map (λ t. outcome t.0) others ≡ map (λ t. t.1) others
unfolding others outcome flatten bundle label encode_node encode_record encode_step encode_tree
others_hold = refl

-- ---- what they say
-- with at most 3 A some model has the class, so that EMPTY would be false; with at most 2 none has
pub four_inhabited : let D = described (four 4) in let I = line D (graph_of (four 4) (encode_graph (layout_of D) four_graph)) in Model D I × Satisfies D (wanted D) I
unfolding four four_graph outcome flatten bundle label encode_node
four_inhabited = inhabited_true (four 4) (encode_graph (layout_of (described (four 4))) four_graph) refl

pub four_empty : (I : Interpretation) → Model (described (four 3)) I → Satisfies (described (four 3)) (wanted (described (four 3))) I → ⊥
unfolding four four_cells four_list outcome flatten bundle label encode_record encode_step encode_tree
four_empty = empty_true (four 3) (encode_refutation (layout_of (described (four 3))) four_list) refl

pub pairs_empty : (I : Interpretation) → Model (described pairs) I → Satisfies (described pairs) (wanted (described pairs)) I → ⊥
unfolding pairs one_of pairs_cell pairs_cells pairs_rows pairs_list abc_tree tabulate outcome flatten bundle label encode_record encode_step encode_tree
pairs_empty = empty_true pairs (encode_refutation (layout_of (described pairs)) (pairs_list abc_tree)) refl

-- the rows and the open cells of the counting step are counting's abc, which half a filler in each open cell meets, and which no leaf closes
-- (abc-halves, abc-no-leaf)
pub pairs_step : (bounds (rows_of (described pairs) (map literal pairs_rows)) ≡ abc 1) × (tabulate 64 (live (open_at pairs_cells)) ≡ tabulate 64 (live abc_open))
unfolding pairs pairs_rows one_of pairs_cell pairs_cells abc abc_open tabulate outcome
pairs_step = (refl, refl)
