-- Worked examples: both sides of each clause of 10 and 16 to 20 that the theorems alone do not pin, their order,
-- the rows, and what is known of a cell. Those of barred cells are in BarredExamples.
use Rattle.std.specs.Prelude.{ℕ, zero, suc, ◌≡◌, refl, List, [], ◌∷◌, ◌++◌, map}
use Rattle.std.proofs.Math.Option.{Option, none, some}
use Rattle.std.proofs.Common.{arith}
use Rattle.logic.specs.Bounded.{all_below, any_below}
use Rattle.logic.specs.Closure.{closure}
use Rattle.logic.specs.Lists.{each}
use Rattle.logic.specs.Sets.{has, narrow, within, with, set_of}
use Rattle.logic.specs.Refusals.{Refusal, refuse_from}
use Rattle.counting.specs.Trees.{lower, upper, Tree, leaf, split, formed, depth, leaf_test, tree_test}
use Rattle.description.specs.Literals.{Literal, literal, members, adding, literal_set, label_of}
use Rattle.description.specs.Descriptions.{Entry, top, name, both, every, at_least, Description, compatible, same_entry, is_both}
use Rattle.description.specs.Roles.{ancestor}
use Rattle.description.specs.Examples.{Role, under, transitive_under, table_of, lit, bits}
use Rattle.refutation.specs.Cells.{row_of, rows_of, bounds, cell_role, known}
use Rattle.refutation.specs.Records.{Cell, unshown, cited, barred, Step, contradiction, conjunction, disjunction, by_rule, case_split, counting}
use Rattle.refutation.specs.Records.{Record, Refutation, Closes, RefutationLimits}
use Rattle.refutation.specs.RecordTests.{any_refutation, stored_refutation, when_counting, if_cited, cell_fits, cite_test, step_test, known_label, record_refusal}
use Rattle.refutation.specs.RecordTests.{end_label, refutation_refusal}

-- literals by their numbers
abbrev lits : List ℕ → List Literal
lits = map (λ l. lit l)

-- a record: no element has these literals, by that step
abbrev pub none_has : List ℕ → Step → Record
none_has label step = record { label = bits label; step = step }

-- step 1 by the literal's number, and step 6
abbrev pub clash : ℕ → Step
clash l = contradiction (lit l)

abbrev pub count : List ℕ → List Cell → Tree → Step
count rows cells tree = counting (record { rows = lits rows; cells = cells; tree = tree })

pub record Trial : Type 0 where
  pub limits : RefutationLimits
  pub given : Description
  pub wanted : List Literal
  pub list : Refutation
  pub answer : Option Refusal

abbrev pub refused : ℕ → ℕ → Option Refusal
refused number place = some (record { number = number; place = place })

abbrev trial : RefutationLimits → Description → List ℕ → Refutation → Option Refusal → Trial
trial lim D wanted C answer = record { limits = lim; given = D; wanted = lits wanted; list = C; answer = answer }

abbrev pub stored : Description → List ℕ → Refutation → Option Refusal → Trial
stored = trial stored_refutation

-- name A; literal 4: at least one filler has A; one rule
ruled : ℕ → Description
ruled l = table_of (under 0 ∷ []) (top ∷ name ∷ at_least 0 (lit 2) 1 ∷ []) (lit 0) (lit l ∷ [])

-- ---- the end
-- the table of P3 to P7: fillers, 2 or more (literal 2) and 3 or more (4); the first and not the second (6), the second and not the first (8)
limited : Description
limited = table_of (under 0 ∷ []) (top ∷ at_least 0 (lit 0) 2 ∷ at_least 0 (lit 0) 3 ∷ both (lit 2) (lit 5) ∷ both (lit 3) (lit 4) ∷ []) (lit 8) []

-- P6 with another last label
p6_with : List ℕ → Refutation
p6_with end =
    none_has (1 ∷ []) (clash 1)
    ∷ none_has (3 ∷ 4 ∷ []) (count (3 ∷ 4 ∷ []) (cited 0 ∷ cited 0 ∷ unshown ∷ []) (leaf (1 ∷ 1 ∷ [])))
    ∷ none_has end (conjunction 4 1)
    ∷ []

end_trials : List Trial
end_trials =
    -- 20: the last label may hold literal 0 beside the root, and nothing else
    stored limited (8 ∷ []) (p6_with (0 ∷ 8 ∷ [])) none
    ∷ stored limited (8 ∷ []) (p6_with (0 ∷ 2 ∷ 8 ∷ [])) (refused 20 2)
    -- of several wanted literals it may hold each
    ∷ stored limited (2 ∷ 3 ∷ []) (none_has (2 ∷ 3 ∷ []) (clash 2) ∷ []) none
    ∷ stored limited (2 ∷ []) (none_has (2 ∷ 3 ∷ []) (clash 2) ∷ []) (refused 20 0)
    -- but not a rule: step 4 puts it in
    ∷ stored (ruled 2) (3 ∷ []) (none_has (2 ∷ 3 ∷ []) (clash 2) ∷ []) (refused 20 0)
    ∷ stored (ruled 2) (3 ∷ []) (none_has (2 ∷ 3 ∷ []) (clash 2) ∷ none_has (3 ∷ []) (by_rule 0 0) ∷ []) none
    -- a rule of the last record comes before
    ∷ stored limited (8 ∷ []) (p6_with (0 ∷ 2 ∷ [])) (refused 17 2)
    ∷ []

-- ---- steps 1 to 5
-- names A (entry 1) and B (entry 2); 3 both(A, not A); 4 both(A, B); rule 0 is not A, rule 1 is A
named : Description
named = table_of (under 0 ∷ []) (top ∷ name ∷ name ∷ both (lit 2) (lit 3) ∷ both (lit 2) (lit 4) ∷ []) (lit 0) (lit 3 ∷ lit 2 ∷ [])

-- with every literal wanted, so that 20 is not at stake
abbrev of_steps : Refutation → Option Refusal → Trial
of_steps = stored named (0 ∷ 1 ∷ 2 ∷ 3 ∷ 4 ∷ 5 ∷ 6 ∷ 7 ∷ 8 ∷ 9 ∷ [])

-- one record; and a record with that label and step after {2, 3}, {4, 5}, {0, 2, 3}, {2}, {3}, {0}, each refuted
abbrev of_step : List ℕ → Step → Option Refusal → Trial
of_step label step = of_steps (none_has label step ∷ [])

abbrev of_next : List ℕ → Step → Option Refusal → Trial
of_next label step = of_steps (none_has (2 ∷ 3 ∷ []) (clash 2) ∷ none_has (4 ∷ 5 ∷ []) (clash 4) ∷ none_has (0 ∷ 2 ∷ 3 ∷ []) (clash 3)
    ∷ none_has (2 ∷ []) (by_rule 0 0) ∷ none_has (3 ∷ []) (by_rule 1 0) ∷ none_has (0 ∷ []) (case_split 1 3 4) ∷ none_has label step ∷ [])

step_trials : List Trial
step_trials =
    -- step 1: a literal with its opposite
    of_step (2 ∷ 3 ∷ []) (clash 2) none
    ∷ of_step (2 ∷ 3 ∷ []) (clash 3) none
    ∷ of_step (2 ∷ []) (clash 2) (refused 17 0)
    -- 0 counts as in L
    ∷ of_step (1 ∷ []) (clash 1) none
    ∷ of_step [] (clash 0) (refused 17 0)
    -- step 2: a "both" in L, and no other kind; within L plus both literals
    ∷ of_next (6 ∷ []) (conjunction 3 0) none
    ∷ of_next [] (conjunction 3 0) (refused 17 6)
    ∷ of_next (2 ∷ 3 ∷ []) (conjunction 1 0) (refused 17 6)
    -- 0 does not count as in L here
    ∷ of_next (6 ∷ []) (conjunction 3 2) (refused 17 6)
    ∷ of_next (0 ∷ 6 ∷ []) (conjunction 3 2) none
    -- step 3: the complement of a "both" in L; a cite for each of its literals, in their order
    ∷ of_next (2 ∷ 4 ∷ 9 ∷ []) (disjunction 4 0 1) none
    ∷ of_next (2 ∷ 4 ∷ 9 ∷ []) (disjunction 4 1 0) (refused 17 6)
    ∷ of_next (2 ∷ 3 ∷ 4 ∷ []) (disjunction 1 0 0) (refused 17 6)
    -- 0 counts as in L only if it is, for the first cite and for the second; a rule counts for neither
    ∷ of_next (2 ∷ 4 ∷ 9 ∷ []) (disjunction 4 2 1) (refused 17 6)
    ∷ of_next (0 ∷ 2 ∷ 4 ∷ 9 ∷ []) (disjunction 4 2 1) none
    ∷ of_next (2 ∷ 4 ∷ 9 ∷ []) (disjunction 4 0 5) (refused 17 6)
    ∷ of_next (0 ∷ 2 ∷ 4 ∷ 9 ∷ []) (disjunction 4 0 5) none
    ∷ of_next (4 ∷ 9 ∷ []) (disjunction 4 0 1) (refused 17 6)
    -- step 4: within L plus that rule, as records 3 and 4 are, not another
    ∷ of_next (2 ∷ []) (by_rule 1 0) (refused 17 6)
    ∷ of_next (2 ∷ []) (by_rule 0 2) (refused 17 6)
    ∷ of_next (0 ∷ 2 ∷ []) (by_rule 0 2) none
    -- step 5: the first cite within L plus 2e, the second within L plus 2e + 1; of any entry, top too
    ∷ of_next [] (case_split 1 3 4) none
    ∷ of_next [] (case_split 1 4 3) (refused 17 6)
    ∷ of_next (1 ∷ []) (case_split 0 5 5) (refused 17 6)
    ∷ of_next (0 ∷ []) (case_split 0 5 5) none
    ∷ of_next [] (case_split 1 5 4) (refused 17 6)
    ∷ of_next (0 ∷ []) (case_split 1 5 4) none
    -- 16: a literal, an entry or a rule of the table
    ∷ of_step (2 ∷ 3 ∷ 9 ∷ []) (clash 2) none
    ∷ of_step (2 ∷ 3 ∷ 10 ∷ []) (clash 2) (refused 16 0)
    ∷ of_step (2 ∷ 3 ∷ []) (clash 9) (refused 17 0)
    ∷ of_step (2 ∷ 3 ∷ []) (clash 10) (refused 16 0)
    ∷ of_next (2 ∷ []) (conjunction 5 0) (refused 16 6)
    ∷ of_next (2 ∷ []) (disjunction 5 0 0) (refused 16 6)
    ∷ of_next (2 ∷ []) (by_rule 2 0) (refused 16 6)
    ∷ of_next (2 ∷ 3 ∷ []) (case_split 4 0 0) none
    ∷ of_next (2 ∷ 3 ∷ []) (case_split 5 0 0) (refused 16 6)
    -- 16: an earlier record, not the record itself, though its label lies within
    ∷ of_next (6 ∷ []) (conjunction 3 6) (refused 16 6)
    -- records rising: 17 of an earlier record before 16 of a later
    ∷ of_steps (none_has (2 ∷ []) (clash 2) ∷ none_has (2 ∷ []) (clash 10) ∷ []) (refused 17 0)
    ∷ of_steps (none_has (2 ∷ 3 ∷ []) (clash 2) ∷ none_has (2 ∷ []) (clash 10) ∷ none_has (2 ∷ []) (clash 2) ∷ []) (refused 16 1)
    ∷ []

-- ---- step 6 in the table of P6: its form, its rows, its tree and the order
abbrev of_counts : RefutationLimits → List ℕ → List ℕ → List Cell → Tree → Option Refusal → Trial
of_counts lim label rows cells tree = trial lim limited label (none_has (1 ∷ []) (clash 1) ∷ none_has label (count rows cells tree) ∷ [])

-- P6's second record with other rows, with other cells and tree, with another tree
abbrev with_rows : List ℕ → List ℕ → Option Refusal → Trial
with_rows label rows = of_counts stored_refutation label rows (cited 0 ∷ cited 0 ∷ unshown ∷ []) (leaf (1 ∷ 1 ∷ []))

abbrev with_cells : List Cell → Tree → Option Refusal → Trial
with_cells = of_counts stored_refutation (3 ∷ 4 ∷ []) (3 ∷ 4 ∷ [])

abbrev with_tree : Tree → Option Refusal → Trial
with_tree = with_cells (cited 0 ∷ cited 0 ∷ unshown ∷ [])

abbrev with_lifted_tree : Tree → Option Refusal → Trial
with_lifted_tree = of_counts any_refutation (3 ∷ 4 ∷ []) (3 ∷ 4 ∷ []) (cited 0 ∷ cited 0 ∷ unshown ∷ [])

-- d splits of cell 3 above the last leaf, which every leaf closes without
chain : ℕ → List ℕ → Tree
chain zero multipliers = leaf multipliers
chain (suc d) multipliers = split 3 0 (leaf (multipliers ++ (0 ∷ []))) (chain d (multipliers ++ (0 ∷ [])))

-- a split of cell 3 at v, likewise
split_at : ℕ → Tree
split_at v = split 3 v (leaf (1 ∷ 1 ∷ 0 ∷ [])) (leaf (1 ∷ 1 ∷ 0 ∷ []))

-- 4n + 3 cells, of which those in row 1 and not in row 0 are shown empty
quads : ℕ → List Cell
quads zero = unshown ∷ cited 0 ∷ unshown ∷ []
quads (suc n) = unshown ∷ cited 0 ∷ unshown ∷ unshown ∷ quads n

count_trials : List Trial
count_trials =
    -- 10: no row, lifted too; one is enough for the form
    of_counts stored_refutation [] [] [] (leaf []) (refused 10 1)
    ∷ of_counts any_refutation [] [] [] (leaf []) (refused 10 1)
    ∷ of_counts stored_refutation (4 ∷ []) (4 ∷ []) (unshown ∷ []) (leaf (1 ∷ [])) (refused 19 1)
    -- 10: a cell too few, a cell too many
    ∷ with_cells (cited 0 ∷ cited 0 ∷ []) (leaf (1 ∷ 1 ∷ [])) (refused 10 1)
    ∷ with_cells (cited 0 ∷ cited 0 ∷ unshown ∷ unshown ∷ []) (leaf (1 ∷ 1 ∷ [])) (refused 10 1)
    -- 10: a multiplier too few, lifted too; under a split one too few, one too many, and as many as asked
    ∷ with_lifted_tree (leaf (1 ∷ [])) (refused 10 1)
    ∷ with_tree (split 3 0 (leaf (1 ∷ 1 ∷ [])) (leaf (1 ∷ 1 ∷ 0 ∷ []))) (refused 10 1)
    ∷ with_tree (split 3 0 (leaf (1 ∷ 1 ∷ 0 ∷ [])) (leaf (1 ∷ 1 ∷ 0 ∷ 0 ∷ []))) (refused 10 1)
    ∷ with_tree (split_at 0) none
    -- 10: eight splits above a leaf, and nine; lifted, nine are allowed
    ∷ with_tree (chain 8 (1 ∷ 1 ∷ [])) none
    ∷ with_tree (chain 9 (1 ∷ 1 ∷ [])) (refused 10 1)
    ∷ with_lifted_tree (chain 9 (1 ∷ 1 ∷ [])) none
    -- 17: rows rise strictly
    ∷ with_rows (3 ∷ 4 ∷ []) (3 ∷ 4 ∷ []) none
    ∷ with_rows (3 ∷ 4 ∷ []) (4 ∷ 3 ∷ []) (refused 17 1)
    ∷ with_rows (3 ∷ 4 ∷ []) (4 ∷ 4 ∷ []) (refused 17 1)
    ∷ of_counts stored_refutation (2 ∷ 3 ∷ 4 ∷ []) (2 ∷ 4 ∷ 3 ∷ []) (quads 1) (leaf (1 ∷ 1 ∷ 1 ∷ [])) (refused 17 1)
    -- 17: each is in L, and gives a row, as a "both" does not (rows_found has the other kinds)
    ∷ with_rows (3 ∷ 4 ∷ 7 ∷ []) (3 ∷ 4 ∷ []) none
    ∷ with_rows (3 ∷ 7 ∷ []) (3 ∷ 4 ∷ []) (refused 17 1)
    ∷ with_rows (3 ∷ 6 ∷ []) (3 ∷ 6 ∷ []) (refused 17 1)
    -- 19: the gap is above zero; a split's value is 0 to 1,000, lifted any (counting has the other rules of trees)
    ∷ with_tree (leaf (2 ∷ 1 ∷ [])) none
    ∷ with_tree (leaf (3 ∷ 1 ∷ [])) (refused 19 1)
    ∷ with_tree (split_at 1000) none
    ∷ with_tree (split_at 1001) (refused 19 1)
    ∷ with_lifted_tree (split_at 1001) none
    -- 16: a cell cites the record itself; a row literal past the table
    ∷ with_cells (cited 0 ∷ cited 1 ∷ unshown ∷ []) (leaf (1 ∷ 1 ∷ [])) (refused 16 1)
    ∷ with_rows (3 ∷ 4 ∷ []) (3 ∷ 10 ∷ []) (refused 16 1)
    -- 18: cell 3 is not known to lack top
    ∷ with_cells (cited 0 ∷ cited 0 ∷ cited 0 ∷ []) (leaf (1 ∷ 1 ∷ [])) (refused 18 1)
    -- within a record 16 comes before 17, 17 before 18, 18 before 19
    ∷ of_counts stored_refutation (3 ∷ 4 ∷ []) (4 ∷ 3 ∷ []) (cited 0 ∷ cited 0 ∷ cited 1 ∷ []) (leaf (1 ∷ 1 ∷ [])) (refused 16 1)
    ∷ of_counts stored_refutation (3 ∷ 4 ∷ []) (4 ∷ 3 ∷ []) (cited 0 ∷ cited 0 ∷ cited 0 ∷ []) (leaf (1 ∷ 1 ∷ [])) (refused 17 1)
    ∷ with_cells (cited 0 ∷ cited 0 ∷ cited 0 ∷ []) (leaf (1 ∷ 0 ∷ [])) (refused 18 1)
    -- 10 over all records comes first, and of these the first
    ∷ stored limited [] (none_has (2 ∷ []) (clash 10) ∷ none_has [] (count [] [] (leaf [])) ∷ none_has [] (count [] [] (leaf [])) ∷ []) (refused 10 1)
    ∷ []

-- k rows: at most 1, at least 3, and others
many : Description
many = table_of (under 0 ∷ [])
    (top ∷ at_least 0 (lit 0) 2 ∷ at_least 0 (lit 0) 3 ∷ at_least 0 (lit 0) 4 ∷ at_least 0 (lit 0) 5 ∷ at_least 0 (lit 0) 6 ∷ at_least 0 (lit 0) 7
    ∷ at_least 0 (lit 0) 8 ∷ []) (lit 0) []

abbrev of_many : RefutationLimits → List ℕ → ℕ → List ℕ → Option Refusal → Trial
of_many lim rows n multipliers = trial lim many rows (none_has (1 ∷ []) (clash 1) ∷ none_has rows (count rows (quads n) (leaf multipliers)) ∷ [])

many_trials : List Trial
many_trials =
    -- 10: six rows, and seven; lifted, seven are allowed
    of_many stored_refutation (3 ∷ 4 ∷ 6 ∷ 8 ∷ 10 ∷ 12 ∷ []) 15 (1 ∷ 1 ∷ 0 ∷ 0 ∷ 0 ∷ 0 ∷ []) none
    ∷ of_many stored_refutation (3 ∷ 4 ∷ 6 ∷ 8 ∷ 10 ∷ 12 ∷ 14 ∷ []) 31 (1 ∷ 1 ∷ 0 ∷ 0 ∷ 0 ∷ 0 ∷ 0 ∷ []) (refused 10 1)
    ∷ of_many any_refutation (3 ∷ 4 ∷ 6 ∷ 8 ∷ 10 ∷ 12 ∷ 14 ∷ []) 31 (1 ∷ 1 ∷ 0 ∷ 0 ∷ 0 ∷ 0 ∷ 0 ∷ []) none
    ∷ []

-- ---- the rows
-- names, "both" and "every" give none; "at least 3" and its complement, "at least 1" and its complement, the complement of "every"
rows_table : Description
rows_table = table_of (under 0 ∷ under 0 ∷ [])
    (top ∷ name ∷ both (lit 2) (lit 3) ∷ every 1 (lit 2) ∷ at_least 1 (lit 3) 3 ∷ at_least 0 (lit 2) 1 ∷ []) (lit 0) []

rows_found : map (row_of rows_table) (lits (0 ∷ 1 ∷ 2 ∷ 3 ∷ 4 ∷ 5 ∷ 6 ∷ 7 ∷ 8 ∷ 9 ∷ 10 ∷ 11 ∷ [])) ≡ (
    none ∷ none ∷ none ∷ none ∷ none ∷ none
    ∷ none ∷ some (record { role = 1; qualifier = lit 3; side = lower; bound = 1 })
    ∷ some (record { role = 1; qualifier = lit 3; side = lower; bound = 3 }) ∷ some (record { role = 1; qualifier = lit 3; side = upper; bound = 2 })
    ∷ some (record { role = 0; qualifier = lit 2; side = lower; bound = 1 }) ∷ some (record { role = 0; qualifier = lit 2; side = upper; bound = 0 })
    ∷ [])
unfolding rows_table literal
rows_found = refl

-- ---- what is known of a cell
-- the literals known of cell c in a step with that label and those rows, and what they should be
record KnownTrial : Type 0 where
  pub found : ℕ
  pub literals : List ℕ

abbrev knows : List Role → List Entry → List ℕ → List ℕ → ℕ → List ℕ → KnownTrial
knows roles entries label rows c literals = record {
  found = known_label (table_of roles entries (lit 0) []) (bits label) (lits rows) c;
  literals = literals;
}

-- names A and B; 6: at least 1 on role 0 has A; 9: none on role 1 has B; 10: every filler of role 1 has not B
counted : List Entry
counted = top ∷ name ∷ name ∷ at_least 0 (lit 2) 1 ∷ at_least 1 (lit 4) 1 ∷ every 1 (lit 5) ∷ []

-- name A; 4: every filler of role 1 has A; 6: of role 0; 9: there is a filler of role 0; 11: of role 1
passing : List Entry
passing = top ∷ name ∷ every 1 (lit 2) ∷ every 0 (lit 2) ∷ every 0 (lit 1) ∷ every 1 (lit 1) ∷ []

-- two roles apart; 0 under 1; 1 under 0; 0 under 1 by way of 2
abbrev apart : List Role
apart = under 0 ∷ under 0 ∷ []

abbrev zero_under : List Role
zero_under = under 2 ∷ under 0 ∷ []

abbrev one_under : List Role
one_under = under 0 ∷ under 1 ∷ []

abbrev by_two : List Role
by_two = under 4 ∷ under 0 ∷ under 2 ∷ []

-- 0 under 1 and transitive; apart and 0 transitive; 0 under 1, which is transitive
abbrev transitive_zero : List Role
transitive_zero = transitive_under 2 ∷ under 0 ∷ []

abbrev transitive_apart : List Role
transitive_apart = transitive_under 0 ∷ under 0 ∷ []

abbrev transitive_one : List Role
transitive_one = under 2 ∷ transitive_under 0 ∷ []

known_trials : List KnownTrial
known_trials =
    -- literal 0 and the qualifiers of the cell's rows; nothing of a row on a role that is not among the cell's
    knows apart counted (6 ∷ 9 ∷ []) (6 ∷ 9 ∷ []) 1 (0 ∷ 2 ∷ [])
    ∷ knows apart counted (6 ∷ 9 ∷ []) (6 ∷ 9 ∷ []) 3 (0 ∷ 2 ∷ 4 ∷ [])
    -- the opposite qualifier of the other row, where its role is among the cell's: upward, not downward
    ∷ knows zero_under counted (6 ∷ 9 ∷ []) (6 ∷ 9 ∷ []) 1 (0 ∷ 2 ∷ 5 ∷ [])
    ∷ knows zero_under counted (6 ∷ 9 ∷ []) (6 ∷ 9 ∷ []) 2 (0 ∷ 4 ∷ [])
    ∷ knows by_two counted (6 ∷ 9 ∷ []) (6 ∷ 9 ∷ []) 1 (0 ∷ 2 ∷ 5 ∷ [])
    -- the rows are those of the step, not all of the label
    ∷ knows zero_under counted (6 ∷ 9 ∷ []) (6 ∷ []) 1 (0 ∷ 2 ∷ [])
    -- "every R l" in the label passes l where R is among the cell's roles, itself or as an ancestor
    ∷ knows apart counted (6 ∷ 10 ∷ []) (6 ∷ []) 1 (0 ∷ 2 ∷ [])
    ∷ knows zero_under counted (6 ∷ 10 ∷ []) (6 ∷ []) 1 (0 ∷ 2 ∷ 5 ∷ [])
    ∷ knows one_under counted (6 ∷ 10 ∷ []) (6 ∷ []) 1 (0 ∷ 2 ∷ [])
    ∷ knows apart counted (8 ∷ 10 ∷ []) (8 ∷ []) 1 (0 ∷ 4 ∷ 5 ∷ [])
    -- not where it is not in the label, or its complement is
    ∷ knows zero_under counted (6 ∷ []) (6 ∷ []) 1 (0 ∷ 2 ∷ [])
    ∷ knows zero_under counted (6 ∷ 11 ∷ []) (6 ∷ []) 1 (0 ∷ 2 ∷ [])
    -- onward "every T l", for a transitive T among the cell's roles with ancestor R, of the same literal
    ∷ knows transitive_zero passing (4 ∷ 9 ∷ []) (9 ∷ []) 1 (0 ∷ 2 ∷ 6 ∷ [])
    ∷ knows transitive_zero passing (6 ∷ 9 ∷ []) (9 ∷ []) 1 (0 ∷ 2 ∷ 6 ∷ [])
    ∷ knows transitive_one passing (4 ∷ 9 ∷ []) (9 ∷ []) 1 (0 ∷ 2 ∷ 4 ∷ [])
    -- not where T is not transitive, is not under R, or is not among the cell's roles
    ∷ knows zero_under passing (4 ∷ 9 ∷ []) (9 ∷ []) 1 (0 ∷ 2 ∷ [])
    ∷ knows transitive_apart passing (4 ∷ 9 ∷ []) (9 ∷ []) 1 (0 ∷ [])
    ∷ knows transitive_zero passing (4 ∷ 11 ∷ []) (11 ∷ []) 1 (0 ∷ 2 ∷ [])
    ∷ knows transitive_one passing (6 ∷ 9 ∷ []) (9 ∷ []) 1 (0 ∷ 2 ∷ [])
    -- the qualifier of the complement of "every": the opposite
    ∷ knows apart passing (7 ∷ []) (7 ∷ []) 1 (0 ∷ 3 ∷ [])
    ∷ []

known_found : map (λ t. t.found) known_trials ≡ map (λ t. bits t.literals) known_trials
unfolding known_trials counted passing
    rows_of known cell_role ancestor closure same_entry literal members label_of with has set_of any_below
known_found = refl

-- ---- 18, of what is known
-- some filler has A, rule 0 is not A: after {2, 3} and {2}, each refuted, cell 1 cites one of them
abbrev of_ruled : ℕ → Option Refusal → Trial
of_ruled cite = stored (ruled 3) (4 ∷ []) (
    none_has (2 ∷ 3 ∷ []) (clash 2) ∷ none_has (2 ∷ []) (by_rule 0 0) ∷ none_has (4 ∷ []) (count (4 ∷ []) (cited cite ∷ []) (leaf (1 ∷ []))) ∷ [])

cell_trials : List Trial
cell_trials =
    -- a rule is not known: step 4 puts it in
    of_ruled 0 (refused 18 2)
    ∷ of_ruled 1 none
    ∷ []

-- ---- all of them
abbrev pub Agree : List Trial → Type 0
Agree ts = map (λ t. refutation_refusal t.limits t.given t.wanted t.list) ts ≡ map (λ t. t.answer) ts

trials_hold : Agree end_trials × Agree step_trials × Agree count_trials × Agree many_trials × Agree cell_trials
unfolding end_trials step_trials count_trials many_trials cell_trials ruled limited p6_with named many quads chain split_at
    refutation_refusal refuse_from record_refusal when_counting if_cited cell_fits compatible cite_test step_test end_label
    formed depth leaf_test tree_test rows_of bounds known cell_role ancestor closure same_entry is_both
    literal members adding literal_set label_of narrow within with has set_of each all_below any_below
trials_hold = (refl, refl, refl, refl, refl)

-- a list of no record closes nothing
no_record : (D : Description) (W : List Literal) → Closes D W [] → ⊥
no_record D W k = omega (arith, k.some_record)
