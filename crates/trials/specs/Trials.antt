-- The trials P1 to P10 of 01 ("Trial descriptions"), byte by byte, as one table under one theorem.
use Rattle.std.specs.Prelude.{ℕ, ◌≡◌, refl, List, [], ◌∷◌, map, length, replicate}
use Rattle.logic.specs.Bounded.{all_below, any_below}
use Rattle.logic.specs.Closure.{closure}
use Rattle.logic.specs.Lists.{each, tabulate}
use Rattle.logic.specs.Refusals.{refuse_from}
use Rattle.logic.specs.Sets.{has, nonempty, narrow, within, with, set_of}
use Rattle.logic.specs.Sums.{max_below}
use Rattle.counting.specs.Trees.{formed, depth, leaf_test, tree_test}
use Rattle.parts.specs.Pairs.{fills, fills_from}
use Rattle.description.specs.Literals.{literal, members, adding, literal_set, label_of}
use Rattle.description.specs.Descriptions.{compatible, entry_from, same_entry, if_both, if_every, if_least, is_both}
use Rattle.description.specs.Roles.{ancestor, simple}
use Rattle.description.specs.Acceptance.{entry_test, description_tests}
use Rattle.graph.specs.Graphs.{total}
use Rattle.graph.specs.GraphTests.{label_test, both_test, edge_test, every_test, count_test, node_refusal, graph_refusal}
use Rattle.graph.specs.Line.{copies, joins, direct, pairs}
use Rattle.refutation.specs.Cells.{rows_of, bounds, cell_role, known}
use Rattle.refutation.specs.RecordTests.{when_counting, if_cited, cell_fits, cite_test, step_test, record_refusal, end_label, refutation_refusal}
use Rattle.intake.specs.Intake.{sizes_test, parts_test, bytes_test}
use Rattle.labels.specs.Labels.{label_bytes, name_bytes, label_in, names_in}
use Rattle.evidence.specs.Evidence.{head_test, head_of, node_form_test}
use Rattle.lines.specs.Lines.{line_byte}
use Rattle.graph_check.specs.GraphEvidence.{graph_tests, graph_refused}
use Rattle.line_writer.specs.Writing.{write_refused, write_answer, write_length, buffer_after}
use Rattle.list_form.specs.ListForm.{node_in, tree_in, counting_in, step_of}
use Rattle.lists.specs.Lists.{record_form_test}
use Rattle.lists.specs.ListEvidence.{list_tests}
use Rattle.answers.specs.Answers.{Word, REFUSED, INHABITED, EMPTY, WRITTEN, Answer}
use Rattle.verdict.specs.Verdict.{verdict}
use Rattle.claims.specs.Claims.{pieces, claim_answer}

-- evidence is checked, the line of a graph is written into a buffer, or a claim by the numbers of its literals is judged
pub data Trial : Type 0 where
  checks : (description evidence : List ℕ) → Trial
  writes : (description evidence buffer : List ℕ) → Trial
  judges : (description : List ℕ) (c d : ℕ) (first second : List ℕ) → Trial

-- what is told; of the writer also the length that it answers, and the buffer afterwards
pub data Outcome : Type 0 where
  tells : Answer → Outcome
  leaves : Answer → ℕ → List ℕ → Outcome

-- `unfolding outcome` unfolds all that these trials compute with
unfoldable pub outcome : Trial → Outcome
unfolding verdict claim_answer pieces bytes_test parts_test sizes_test fills fills_from description_tests entry_test entry_from simple ancestor closure same_entry if_both if_every if_least is_both
    head_test head_of label_bytes label_in name_bytes names_in node_form_test graph_tests graph_refused graph_refusal node_refusal label_test both_test edge_test every_test count_test total
    record_form_test node_in tree_in counting_in step_of list_tests refutation_refusal record_refusal when_counting if_cited cell_fits compatible cite_test step_test end_label
    formed depth leaf_test tree_test rows_of bounds known cell_role write_refused copies max_below line_byte joins direct pairs
    literal members adding literal_set label_of refuse_from all_below any_below each tabulate has nonempty narrow within with set_of
outcome (checks d s) = tells (verdict d s)
outcome (writes d s old) = leaves (write_answer d s (length old)) (write_length d s (length old)) (buffer_after d s old)
outcome (judges x c d s t) = tells (claim_answer x c d s t)

-- as it is printed
abbrev pub told : Word → ℕ → ℕ → Answer
told w n r = record { word = w; number = n; place = r }

-- ---- the bytes
-- one role, the entry top, and a root
abbrev top : ℕ → List ℕ
top root =
    0 ∷ 12 ∷ 0 ∷ 3 ∷ 0 ∷ 15 ∷ 0 ∷ 6 ∷ 0 ∷ 21 ∷ 0 ∷ 1
    ∷ 0 ∷ 0 ∷ 0
    ∷ 0 ∷ 0 ∷ 0 ∷ 0 ∷ 0 ∷ 0
    ∷ root ∷ []

-- P1: a node {0}
abbrev alone : List ℕ
alone = 1 ∷ 1 ∷ 0 ∷ 6 ∷ 0 ∷ 8 ∷ 0 ∷ 0 ∷ 0 ∷ 0 ∷ 0 ∷ 0 ∷ 0 ∷ 1 ∷ []

-- P2: {1} by step 1
abbrev bottom : List ℕ
bottom = 2 ∷ 1 ∷ 0 ∷ 6 ∷ 0 ∷ 10 ∷ 0 ∷ 0 ∷ 0 ∷ 0 ∷ 0 ∷ 0 ∷ 0 ∷ 2 ∷ 1 ∷ 1 ∷ []

-- P3 to P7: one role; top, "at least 2" and "at least 3" of it, both(2, 5), both(3, 4); a root
abbrev counts : ℕ → List ℕ
counts root =
    0 ∷ 12 ∷ 0 ∷ 3 ∷ 0 ∷ 15 ∷ 0 ∷ 30 ∷ 0 ∷ 45 ∷ 0 ∷ 1
    ∷ 0 ∷ 0 ∷ 0
    ∷ 0 ∷ 0 ∷ 0 ∷ 0 ∷ 0 ∷ 0
    ∷ 4 ∷ 0 ∷ 0 ∷ 0 ∷ 0 ∷ 2
    ∷ 4 ∷ 0 ∷ 0 ∷ 0 ∷ 0 ∷ 3
    ∷ 2 ∷ 0 ∷ 2 ∷ 5 ∷ 0 ∷ 0
    ∷ 2 ∷ 0 ∷ 3 ∷ 4 ∷ 0 ∷ 0
    ∷ root ∷ []

-- P3 to P5: node 0 {0, 2, 5, 6}, an edge of that count to node 1 {0}
abbrev fillers : ℕ → List ℕ
fillers count =
    1 ∷ 2 ∷ 0 ∷ 10 ∷ 0 ∷ 13 ∷ 0 ∷ 23 ∷ 0 ∷ 8
    ∷ 0 ∷ 0 ∷ 0 ∷ 0 ∷ 0 ∷ 0 ∷ 0 ∷ 101 ∷ 1 ∷ 0 ∷ 1 ∷ 0 ∷ count
    ∷ 0 ∷ 0 ∷ 0 ∷ 0 ∷ 0 ∷ 0 ∷ 0 ∷ 1 ∷ []

-- P4: 4 elements without a name; 0 and 1 each to 2 and 3
abbrev written : List ℕ
written =
    4
    ∷ 0 ∷ 0 ∷ 0 ∷ 0 ∷ 0 ∷ 0 ∷ 0 ∷ 0 ∷ 0 ∷ 0 ∷ 0 ∷ 0 ∷ 0 ∷ 0 ∷ 0 ∷ 0
    ∷ 0 ∷ 0 ∷ 0 ∷ 0 ∷ 0 ∷ 1 ∷ 0 ∷ 1
    ∷ 0 ∷ 0 ∷ 0 ∷ 0 ∷ 0 ∷ 1 ∷ 0 ∷ 1
    ∷ 0 ∷ 0 ∷ 0 ∷ 0 ∷ 0 ∷ 0 ∷ 0 ∷ 0
    ∷ 0 ∷ 0 ∷ 0 ∷ 0 ∷ 0 ∷ 0 ∷ 0 ∷ 0 ∷ []

-- P6, P7: {1} by step 1; {3, 4} by step 6 with the rows 3 and 4, the cells 0, 0 and 255 and a leaf 1, m; {8} by step 2
abbrev refuting : ℕ → List ℕ
refuting m =
    2 ∷ 3 ∷ 0 ∷ 14 ∷ 0 ∷ 10 ∷ 0 ∷ 24 ∷ 0 ∷ 18 ∷ 0 ∷ 42 ∷ 0 ∷ 11
    ∷ 0 ∷ 0 ∷ 0 ∷ 0 ∷ 0 ∷ 0 ∷ 0 ∷ 2 ∷ 1 ∷ 1
    ∷ 0 ∷ 0 ∷ 0 ∷ 0 ∷ 0 ∷ 0 ∷ 0 ∷ 24 ∷ 6 ∷ 2 ∷ 3 ∷ 4 ∷ 0 ∷ 0 ∷ 255 ∷ 0 ∷ 1 ∷ m
    ∷ 0 ∷ 0 ∷ 0 ∷ 0 ∷ 0 ∷ 0 ∷ 1 ∷ 0 ∷ 2 ∷ 4 ∷ 1 ∷ []

-- P8: role 0 transitive under role 1; top, a name, "every" on role 1 of the name, and on no other
abbrev missing : List ℕ
missing =
    0 ∷ 12 ∷ 0 ∷ 6 ∷ 0 ∷ 18 ∷ 0 ∷ 18 ∷ 0 ∷ 36 ∷ 0 ∷ 1
    ∷ 1 ∷ 0 ∷ 2 ∷ 0 ∷ 0 ∷ 0
    ∷ 0 ∷ 0 ∷ 0 ∷ 0 ∷ 0 ∷ 0
    ∷ 1 ∷ 0 ∷ 0 ∷ 0 ∷ 0 ∷ 0
    ∷ 3 ∷ 1 ∷ 2 ∷ 0 ∷ 0 ∷ 0
    ∷ 4 ∷ []

-- P9: the same roles; top, "at least 1" on role 1 of top
abbrev unsimple : List ℕ
unsimple =
    0 ∷ 12 ∷ 0 ∷ 6 ∷ 0 ∷ 18 ∷ 0 ∷ 12 ∷ 0 ∷ 30 ∷ 0 ∷ 1
    ∷ 1 ∷ 0 ∷ 2 ∷ 0 ∷ 0 ∷ 0
    ∷ 0 ∷ 0 ∷ 0 ∷ 0 ∷ 0 ∷ 0
    ∷ 4 ∷ 1 ∷ 0 ∷ 0 ∷ 0 ∷ 1
    ∷ 2 ∷ []

-- ---- the table
pub trials : List (Trial × Outcome)
trials =
    -- P1, P2
    (checks (top 0) alone, tells (told INHABITED 0 0))
    ∷ (checks (top 1) bottom, tells (told EMPTY 0 0))
    -- P3; P4, in a buffer of 49 bytes; P5
    ∷ (checks (counts 6) (fillers 2), tells (told INHABITED 0 0))
    ∷ (writes (counts 6) (fillers 2) (replicate 49 165), leaves (told WRITTEN 0 0) 49 written)
    ∷ (checks (counts 6) (fillers 1), tells (told REFUSED 15 0))
    ∷ (checks (counts 6) (fillers 3), tells (told REFUSED 15 0))
    -- P6, P7
    ∷ (checks (counts 8) (refuting 1), tells (told EMPTY 0 0))
    ∷ (checks (counts 8) (refuting 0), tells (told REFUSED 19 1))
    -- P8 and P9, where the evidence is not read; P10
    ∷ (checks missing [], tells (told REFUSED 7 0))
    ∷ (checks unsimple [], tells (told REFUSED 5 0))
    ∷ (checks (top 0) [], tells (told REFUSED 9 0))
    ∷ []

pub outcomes : map (λ t. outcome t.0) trials ≡ map (λ t. t.1) trials
unfolding trials outcome
outcomes = refl
