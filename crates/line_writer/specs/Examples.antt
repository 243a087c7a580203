-- Worked examples: what the writer answers and leaves, and what the reader answers to such lines. (P4 itself stands in trials/Trials.)
use Rattle.std.specs.Prelude.{ℕ, zero, suc, ◌*◌, ◌≡◌, refl, List, [], ◌∷◌, ◌++◌, map, length, replicate}
use Rattle.std.proofs.Math.Option.{none, some}
use Rattle.logic.specs.Bounded.{all_below, any_below}
use Rattle.logic.specs.Closure.{closure}
use Rattle.logic.specs.Lists.{each, some?, tabulate}
use Rattle.logic.specs.Refusals.{refuse_from}
use Rattle.logic.specs.Sets.{has, narrow, nonempty, within, set_of}
use Rattle.logic.specs.Sums.{sum_below, max_below}
use Rattle.parts.specs.Pairs.{fills, fills_from}
use Rattle.description.specs.Literals.{literal, members}
use Rattle.description.specs.Descriptions.{compatible, entry_from, same_entry, if_both, if_every, if_least}
use Rattle.description.specs.Roles.{ancestor, simple}
use Rattle.description.specs.Acceptance.{entry_test, description_tests}
use Rattle.interpretation.specs.Meaning.{meaning, truth_with, truth}
use Rattle.interpretation.specs.Reading.{includes, composes, separates, follows, satisfies}
use Rattle.graph.specs.Graphs.{total}
use Rattle.graph.specs.GraphTests.{label_test, both_test, edge_test, every_test, count_test, node_refusal, graph_refusal}
use Rattle.graph.specs.Line.{copies, joins, direct, pairs}
use Rattle.intake.specs.Intake.{sizes_test, parts_test, bytes_test}
use Rattle.labels.specs.Labels.{label_bytes, name_bytes, label_in, names_in}
use Rattle.evidence.specs.Evidence.{head_test, node_form_test}
use Rattle.lines.specs.Lines.{line_test, line_byte}
use Rattle.answers.specs.Answers.{Answer, answer, WRITTEN, HOLDS, FAILS, REFUSED}
use Rattle.graph_check.specs.GraphEvidence.{graph_tests, graph_refused}
use Rattle.graph_check.specs.Examples.{parts, apart, entry, node, edge, one, first, third, filled}
use Rattle.line_reader.specs.Reading.{read_refusal, read_answer}
use Rattle.line_writer.specs.Writing.{write_refused, write_answer, write_length, buffer_after}

-- the line of P3: 4 elements without a name, 2 and 3 the fillers of 0 and of 1
abbrev row : List ℕ
row = 0 ∷ 0 ∷ 0 ∷ 0 ∷ 0 ∷ 1 ∷ 0 ∷ 1 ∷ []

abbrev fourth : List ℕ
fourth = 4 ∷ replicate 16 0 ++ row ++ row ++ replicate 16 0

-- nine roles, and eight names after top
abbrev names : List ℕ
names = entry 1 0 0 0 0 ++ entry 1 0 0 0 0

abbrev ninth : List ℕ
ninth = parts (replicate 27 0) (entry 0 0 0 0 0 ++ names ++ names ++ names ++ names) (16 ∷ [])

-- top and n names, the last of them the root: with 31 the name masks have 4 bytes, with 32 they have 8
abbrev table : ℕ → List ℕ
table zero = []
table (suc n) = entry 1 0 0 0 0 ++ table n

abbrev named : ℕ → List ℕ
named n = parts (0 ∷ 0 ∷ 0 ∷ []) (entry 0 0 0 0 0 ++ table n) (2 * n ∷ [])

-- one element that has the last name, and no pair
abbrev narrow_line : List ℕ
narrow_line = 1 ∷ 128 ∷ 0 ∷ 0 ∷ 0 ∷ 0 ∷ 0 ∷ []

abbrev wide_line : List ℕ
wide_line = 1 ∷ 0 ∷ 0 ∷ 0 ∷ 1 ∷ 0 ∷ 0 ∷ 0 ∷ 0 ∷ 0 ∷ 0 ∷ []

-- two elements without a name; the pairs to each of them, from both alike, have those roles
abbrev pair_line : ℕ → ℕ → List ℕ
pair_line to0 to1 = 2 ∷ replicate 8 0 ++ 0 ∷ to0 ∷ 0 ∷ to1 ∷ 0 ∷ to0 ∷ 0 ∷ to1 ∷ []

record Trial : Type 0 where
  pub description : List ℕ
  pub evidence : List ℕ
  pub buffer : List ℕ
  pub told : Answer
  pub long : ℕ
  pub after : List ℕ

-- a refusal leaves the buffer as it is
abbrev refused : List ℕ → List ℕ → List ℕ → ℕ → Trial
refused d s old n = record { description = d; evidence = s; buffer = old; told = answer WRITTEN (some (record { number = n; place = 0 })); long = 0; after = old }

trials : List Trial
trials =
    -- it has 49 bytes: a longer buffer keeps its other bytes, 48 are too few
    record { description = third; evidence = filled 2; buffer = replicate 51 165; told = answer WRITTEN none; long = 49; after = fourth ++ 165 ∷ 165 ∷ [] }
    ∷ refused third (filled 2) (replicate 48 165) 22
    -- a broken rule comes before a short buffer
    ∷ refused third (filled 3) [] 15
    ∷ refused third [] (replicate 49 165) 9
    -- a loop of count 64 makes 64 copies, one of 65 too many; K is known before either
    ∷ refused first (one (node 1 (edge 0 1 64))) [] 22
    ∷ refused first (one (node 1 (edge 0 1 65))) [] 21
    -- name entry 8 and role 8, whose bits are in the higher bytes
    ∷ record {
      description = ninth;
      evidence = one (0 ∷ 0 ∷ 0 ∷ 0 ∷ 0 ∷ 1 ∷ 0 ∷ 1 ∷ edge 0 256 1);
      buffer = replicate 7 165;
      told = answer WRITTEN none;
      long = 7;
      after = 1 ∷ 0 ∷ 0 ∷ 1 ∷ 0 ∷ 1 ∷ 0 ∷ [];
    }
    -- 32 entries, with name entry 31, and 33, with name entry 32
    ∷ record {
      description = named 31;
      evidence = one (64 ∷ 0 ∷ 0 ∷ 0 ∷ 0 ∷ 0 ∷ 0 ∷ 1 ∷ []);
      buffer = replicate 11 165;
      told = answer WRITTEN none;
      long = 7;
      after = narrow_line ++ replicate 4 165;
    }
    ∷ record {
      description = named 32;
      evidence = one (replicate 7 0 ++ 1 ∷ replicate 7 0 ++ 1 ∷ []);
      buffer = replicate 11 165;
      told = answer WRITTEN none;
      long = 11;
      after = wide_line;
    }
    ∷ refused (named 32) (one (replicate 7 0 ++ 1 ∷ replicate 7 0 ++ 1 ∷ [])) (replicate 10 165) 22
    -- roles 0 and 1 never share a filler: a loop with each makes two copies, and each role leads to its own
    ∷ record {
      description = apart 2 (0 ∷ 1 ∷ []);
      evidence = one (node 1 (edge 0 1 1 ++ edge 0 2 1));
      buffer = replicate 17 165;
      told = answer WRITTEN none;
      long = 17;
      after = pair_line 1 2;
    }
    ∷ refused (apart 2 (0 ∷ 1 ∷ [])) (one (node 1 (edge 0 3 1))) (replicate 17 165) 13
    ∷ []

-- the answer, the length and every byte of the buffer, by the definitions
abbrev tried : Trial → Trial
tried t = record {
  description = t.description;
  evidence = t.evidence;
  buffer = t.buffer;
  told = write_answer t.description t.evidence (length t.buffer);
  long = write_length t.description t.evidence (length t.buffer);
  after = buffer_after t.description t.evidence t.buffer;
}

trials_hold : map tried trials ≡ trials
unfolding trials write_refused graph_refused graph_tests graph_refusal refuse_from head_test node_form_test label_bytes name_bytes label_in
    node_refusal label_test both_test edge_test compatible every_test count_test total each some? tabulate members nonempty bytes_test parts_test
    sizes_test fills fills_from description_tests all_below any_below narrow entry_test literal entry_from if_both if_least if_every simple ancestor
    closure has same_entry copies max_below line_byte set_of joins direct pairs
trials_hold = refl

abbrev formless : Answer
formless = answer REFUSED (some (record { number = 23; place = 0 }))

-- the line is read as a model with the root, also where element 1 has a filler less; where 0 and 1 have, it is none; cut short, or with a bit for no role,
-- it has not the form
reads_hold : map (read_answer third) (
    fourth
    ∷ (4 ∷ replicate 16 0 ++ row ++ (0 ∷ 0 ∷ 0 ∷ 0 ∷ 0 ∷ 1 ∷ 0 ∷ 0 ∷ []) ++ replicate 16 0)
    ∷ (4 ∷ replicate 16 0 ++ (0 ∷ 0 ∷ 0 ∷ 0 ∷ 0 ∷ 1 ∷ 0 ∷ 0 ∷ []) ++ (0 ∷ 0 ∷ 0 ∷ 0 ∷ 0 ∷ 1 ∷ 0 ∷ 0 ∷ []) ++ replicate 16 0)
    ∷ (4 ∷ replicate 16 0 ++ row ++ row ++ replicate 15 0)
    ∷ (4 ∷ replicate 16 0 ++ row ++ row ++ replicate 15 0 ++ 2 ∷ [])
    ∷ []
    )
    ≡ (answer HOLDS none ∷ answer HOLDS none ∷ answer FAILS none ∷ formless ∷ formless ∷ [])
unfolding read_answer read_refusal line_test name_bytes names_in within set_of includes composes separates compatible follows satisfies truth
    truth_with meaning sum_below each bytes_test parts_test sizes_test fills fills_from description_tests all_below any_below narrow entry_test
    literal entry_from if_least if_every simple ancestor closure has same_entry
reads_hold = refl

-- with 32 entries the masks of 4 bytes are read, with 33 those of 8: the other line has not the length; a bit for entry 33 is of none;
-- without the root's bit the line is no model with the root
widths_read : map (read_answer (named 31)) (narrow_line ∷ wide_line ∷ [])
    ++ map (read_answer (named 32)) (wide_line ∷ narrow_line ∷ (1 ∷ 0 ∷ 0 ∷ 0 ∷ 2 ∷ replicate 6 0) ∷ (1 ∷ replicate 10 0) ∷ [])
    ≡ (answer HOLDS none ∷ formless ∷ answer HOLDS none ∷ formless ∷ formless ∷ answer FAILS none ∷ [])
unfolding read_answer read_refusal line_test name_bytes names_in within set_of includes composes separates compatible follows satisfies truth
    truth_with meaning sum_below each bytes_test parts_test sizes_test fills fills_from description_tests all_below any_below narrow entry_test
    literal entry_from if_least if_every simple ancestor closure has same_entry
widths_read = refl

-- the line with each role on a pair of its own is read as a model, one with both on a pair is none; without records it is one
records_read : map (read_answer (apart 2 (0 ∷ 1 ∷ []))) (pair_line 1 2 ∷ pair_line 1 3 ∷ pair_line 3 2 ∷ [])
    ++ map (read_answer (apart 2 [])) (pair_line 1 3 ∷ [])
    ≡ (answer HOLDS none ∷ answer FAILS none ∷ answer FAILS none ∷ answer HOLDS none ∷ [])
unfolding read_answer read_refusal line_test name_bytes names_in within set_of includes composes separates compatible follows satisfies truth
    truth_with meaning sum_below each bytes_test parts_test sizes_test fills fills_from description_tests all_below any_below narrow entry_test
    literal entry_from if_least if_every simple ancestor closure has same_entry
records_read = refl
