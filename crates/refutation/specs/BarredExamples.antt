-- Worked examples of test 18 where roles never share a filler: which cells are marked as barred, and which are not.
use Rattle.std.specs.Prelude.{ℕ, refl, List, [], ◌∷◌}
use Rattle.std.proofs.Math.Option.{Option, none}
use Rattle.logic.specs.Bounded.{all_below, any_below}
use Rattle.logic.specs.Closure.{closure}
use Rattle.logic.specs.Lists.{each}
use Rattle.logic.specs.Sets.{has, narrow, within, with, set_of}
use Rattle.logic.specs.Refusals.{Refusal, refuse_from}
use Rattle.counting.specs.Trees.{Tree, leaf, split, formed, depth, leaf_test, tree_test}
use Rattle.description.specs.Literals.{literal, members, adding, literal_set, label_of}
use Rattle.description.specs.Descriptions.{top, both, at_least, Disjoint, Description, compatible, same_entry, is_both}
use Rattle.description.specs.Roles.{ancestor}
use Rattle.description.specs.Examples.{under, disjoint_of, with_disjoint, lit}
use Rattle.refutation.specs.Cells.{rows_of, bounds, cell_role, known}
use Rattle.refutation.specs.Records.{Cell, unshown, cited, barred, conjunction}
use Rattle.refutation.specs.RecordTests.{when_counting, if_cited, cell_fits, cite_test, step_test, record_refusal}
use Rattle.refutation.specs.RecordTests.{end_label, refutation_refusal}
use Rattle.refutation.specs.Examples.{none_has, clash, count, Trial, refused, stored, Agree}

-- roles 1 and 2 under role 0, and 3 under 1 and 4 under 2; literal 2: some filler of role r; 4: some of role s; 7: at most one of role 0;
-- 8 both(2, 4); 10 both(7, 8)
abbrev probed : ℕ → ℕ → List Disjoint → Description
probed r s pairs = with_disjoint pairs (under 0 ∷ under 1 ∷ under 1 ∷ under 2 ∷ under 4 ∷ [])
    (top ∷ at_least r (lit 0) 1 ∷ at_least s (lit 0) 1 ∷ at_least 0 (lit 0) 2 ∷ both (lit 2) (lit 4) ∷ both (lit 7) (lit 8) ∷ []) (lit 10) []

-- fillers that count in row i for bit i of the cell: 3 and 7 have roles r and s
abbrev of_cells_on : ℕ → ℕ → List Disjoint → List Cell → Tree → Option Refusal → Trial
of_cells_on r s pairs cells tree = stored (probed r s pairs) (10 ∷ []) (
    none_has (1 ∷ []) (clash 1) ∷ none_has (2 ∷ 4 ∷ 7 ∷ []) (count (2 ∷ 4 ∷ 7 ∷ []) cells tree)
    ∷ none_has (7 ∷ 8 ∷ []) (conjunction 4 1) ∷ none_has (10 ∷ []) (conjunction 5 2) ∷ [])

abbrev of_cells : List Disjoint → List Cell → Tree → Option Refusal → Trial
of_cells = of_cells_on 1 2

abbrev ones : Tree
ones = leaf (1 ∷ 1 ∷ 1 ∷ [])

barred_trials : List Trial
barred_trials =
    -- barred cells are marked so, and no others
    of_cells (disjoint_of 1 2 ∷ []) (cited 0 ∷ cited 0 ∷ barred ∷ unshown ∷ unshown ∷ unshown ∷ barred ∷ []) ones none
    ∷ of_cells (disjoint_of 2 1 ∷ disjoint_of 2 1 ∷ []) (cited 0 ∷ cited 0 ∷ barred ∷ unshown ∷ unshown ∷ unshown ∷ barred ∷ []) ones none
    -- by all roles of the cell, not those of its rows alone: 1 and 2 are above 3 and 4, not these above 1 and 2
    ∷ of_cells_on 3 4 (disjoint_of 1 2 ∷ []) (cited 0 ∷ cited 0 ∷ barred ∷ unshown ∷ unshown ∷ unshown ∷ barred ∷ []) ones none
    ∷ of_cells (disjoint_of 3 4 ∷ []) (cited 0 ∷ cited 0 ∷ barred ∷ unshown ∷ unshown ∷ unshown ∷ barred ∷ []) ones (refused 18 1)
    -- a record that fits does not do there, nor the open mark
    ∷ of_cells (disjoint_of 1 2 ∷ []) (cited 0 ∷ cited 0 ∷ cited 0 ∷ unshown ∷ unshown ∷ unshown ∷ barred ∷ []) ones (refused 18 1)
    ∷ of_cells (disjoint_of 1 2 ∷ []) (cited 0 ∷ cited 0 ∷ barred ∷ unshown ∷ unshown ∷ unshown ∷ unshown ∷ []) ones (refused 18 1)
    -- a record that is not earlier is 16 there too
    ∷ of_cells (disjoint_of 1 2 ∷ []) (cited 0 ∷ cited 0 ∷ cited 1 ∷ unshown ∷ unshown ∷ unshown ∷ barred ∷ []) ones (refused 16 1)
    -- the mark on a cell that its roles do not bar
    ∷ of_cells (disjoint_of 1 2 ∷ []) (barred ∷ cited 0 ∷ barred ∷ unshown ∷ unshown ∷ unshown ∷ barred ∷ []) ones (refused 18 1)
    ∷ of_cells [] (cited 0 ∷ cited 0 ∷ barred ∷ unshown ∷ unshown ∷ unshown ∷ barred ∷ []) ones (refused 18 1)
    -- without the record the class is not empty: cells 1 to 3 shut, the others open
    ∷ of_cells [] (cited 0 ∷ cited 0 ∷ cited 0 ∷ unshown ∷ unshown ∷ unshown ∷ unshown ∷ []) ones (refused 19 1)
    -- a barred cell is not open: no split of it
    ∷ of_cells (disjoint_of 1 2 ∷ []) (cited 0 ∷ cited 0 ∷ barred ∷ unshown ∷ unshown ∷ unshown ∷ barred ∷ [])
    (split 3 0 (leaf (1 ∷ 1 ∷ 1 ∷ 0 ∷ [])) (leaf (1 ∷ 1 ∷ 1 ∷ 0 ∷ []))) (refused 19 1)
    ∷ []

barred_hold : Agree barred_trials
unfolding barred_trials refutation_refusal refuse_from record_refusal when_counting if_cited cell_fits compatible cite_test step_test end_label
    formed depth leaf_test tree_test rows_of bounds known cell_role ancestor closure same_entry is_both
    literal members adding literal_set label_of narrow within with has set_of each all_below any_below
barred_hold = refl
