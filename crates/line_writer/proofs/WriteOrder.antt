-- What is laid, and the answer, are those of the writer.
use Rattle.std.specs.Prelude.{ℕ, ◌≡◌, refl, List, ◌++◌, leb, length, drop, Result, Err}
use Rattle.std.proofs.Math.Path.{sym}
use Rattle.std.proofs.Common.{◌∙◌, ap}
use Rattle.std.proofs.Math.Option.{Option, none, some}
use Rattle.logic.specs.Lists.{length_tabulate}
use Rattle.logic.specs.Tests.{so_leb}
use Rattle.logic.specs.Refusals.{Refusal, unless↔, refuse, refuse_some, first_of}
use Rattle.evidence.specs.declared.Layout.{Layout}
use Rattle.evidence.specs.Evidence.{record_count, layout_of, graph_in, graph_size}
use Rattle.copies.specs.Copying.{copies_in}
use Rattle.copies.proofs.Copying.{copies_are}
use Rattle.lines.specs.Lines.{name_size, line_length, most_elements, line_bytes}
use Rattle.answers.specs.declared.Refusal as Refusals
use Rattle.answers.specs.Answers.{answer, numbered, WRITTEN, wholly, of_written, length_of, unless_refused, buffered}
use Rattle.description.specs.Descriptions.{Description, wanted}
use Rattle.tables.specs.Tables.{records_in, describe}
use Rattle.roles.specs.Ancestors.{role_count}
use Rattle.roles.specs.Records.{MasksOf}
use Rattle.directory.specs.Directory.{roles_part, concepts_part, query_part, disjoint_part}
use Rattle.intake.specs.Intake.{parts_test, parts_accepted, bytes_test, described}
use Rattle.intake.specs.Opening.{wholly_none, parts_fine}
use Rattle.evidence.proofs.InPlace.{edges_behind, edges_few}
use Rattle.graph.specs.Line.{copies, line}
use Rattle.graph_check.specs.GraphEvidence.{graph_tests, graph_refused, GraphKept, kept↔}
use Rattle.graph_check.specs.GraphSteps.{layout_in}
use Rattle.graph_check.proofs.GraphJoin.{sample_is}
use Rattle.line_writer.specs.Writing.{room_test, write_refused, write_answer, write_length, buffer_after}
use Rattle.line_writer.specs.WriteSteps.{transitives_in}
use Rattle.line_writer.specs.WriteBytes.{laid_line}
use Rattle.line_writer.specs.WriteOrder.{size_in, After, room_in, ToldOf, OpenedTold, Told}

-- ---- for an accepted description it is the answer of the writer
-- the length of the graph's line
abbrev graph_length : Description → List ℕ → ℕ
graph_length D s = line_length (name_size D) (line D (graph_in (layout_of D) s)).size

-- the answer, its length, and every byte of the buffer, after the refusals o
record Wrote (D : Description) (s old new : List ℕ) (r : Result ℕ Refusals.Refusal) (o : Option Refusal) : Type 0 where
  pub says : of_written r ≡ answer WRITTEN o
  pub long : length_of r ≡ unless_refused 0 (graph_length D s) o
  pub buffer : new ≡ buffered (line_bytes D (line D (graph_in (layout_of D) s))) old o

module _ (rs cs qs : List ℕ) (p : Option (List ℕ)) (a s old : List ℕ) (masks : MasksOf rs (records_in p) a)
    (fine : parts_test rs cs qs p ≡ none) where
  abbrev D : Description
  D = describe rs cs qs p

  -- a graph is the same with and without the mark of a cell
  abbrev f : Layout
  f = layout_in cs

  abbrev room : Option ℕ
  room = room_test (line D (graph_in f s)).size (graph_length D s) (length old)

  module _ (kept : graph_tests D (wanted D) s ≡ none) where
    graph_kept : GraphKept D (wanted D) s
    graph_kept = (kept↔ D (wanted D) s).0 kept

    copies_is : copies_in f s (record_count s) ≡ copies (graph_in f s)
    copies_is = let g = graph_kept in copies_are f s (λ x h. (
      edges_behind s g.head f g.formed x h,
      rw (← edges_behind s g.head f g.formed x h) (edges_few s g.head f g.formed x h),
    ))

    size_is : size_in f s ≡ (line D (graph_in f s)).size
    size_is = rw (copies_is, graph_size f s) refl

    line_wrote : (new : List ℕ) (r : Result ℕ Refusals.Refusal) → ToldOf (transitives_in a (role_count rs)) cs s a old new r → Wrote D s old new r (refuse 0 room none)
    line_wrote new r T = record {
      says = T.says ∙ ap (λ n. answer WRITTEN (refuse 0 (room_test n (line_length (name_size D) n) (length old)) none)) size_is;
      long = T.long
          ∙ ap (λ n. let long = line_length (name_size D) n in unless_refused 0 long (refuse 0 (room_test n long (length old)) none)) size_is;
      buffer = filled room refl (rw size_is at T.after)
          ∙ ap (λ n. unless_refused old (lines ++ drop n old) (refuse 0 room none)) (sym (length_tabulate (graph_length D s) _));
    }
      where
        lines : List ℕ
        lines = line_bytes D (line D (graph_in f s))

        filled : (o : Option ℕ) → room ≡ o → After (transitives_in a (role_count rs)) cs f s a old new (refuse 0 o none)
            → new ≡ unless_refused old (lines ++ drop (graph_length D s) old) (refuse 0 o none)
        filled none e L = let k = parts_accepted rs cs qs p fine in let g = graph_kept in
            let enough = ((unless↔ (leb (line D (graph_in f s)).size most_elements) 21 _).0 e).1 in
            laid_line rs cs qs p k.2 k.0 k.1 s g.head g.formed g.keeps a old new masks
            (so_leb (graph_length D s) (length old) ((unless↔ (leb (graph_length D s) (length old)) 22 none).0 enough).0)
            (rw (size_is, copies_is) at L)
        filled (some n) e L = L

  opened_wrote : (new : List ℕ) (r : Result ℕ Refusals.Refusal) → OpenedTold a (role_count rs) cs qs s old new r
      → Wrote D s old new r (first_of (graph_tests D (wanted D) s) (refuse 0 room none))
  opened_wrote new r T = go (graph_tests D (wanted D) s) refl (rw (sample_is rs cs qs p a s masks fine) at T)
    where
      go : (o : Option Refusal) → graph_tests D (wanted D) s ≡ o
          → Told (transitives_in a (role_count rs)) cs (layout_in cs) s a old new r (first_of o (room_in (layout_in cs) s (length old)))
          → Wrote D s old new r (first_of o (refuse 0 room none))
      go none e T = line_wrote e new r T
      go (some z) e T = record { says = T.says; long = T.long; buffer = T.after }

-- ---- 1 to 8 and 26, then the opened description
module _ (d s old : List ℕ) where
  -- the public promise, in one
  abbrev pub Writes : List ℕ → Result ℕ Refusals.Refusal → Type 0
  Writes new r = (of_written r ≡ write_answer d s (length old)) × ((length_of r ≡ write_length d s (length old)) × (new ≡ buffer_after d s old))

  pub write_refused_lem : (r : Refusals.Refusal) → some (numbered r) ≡ wholly (bytes_test d) → Writes old (Err r)
  unfolding write_refused graph_refused
  write_refused_lem r e = rw (refuse_some 0 (bytes_test d) (graph_tests (described d) (wanted (described d)) s) _ (sym e)) (refl, (refl, refl))

  pub write_opened : (a : List ℕ) (m : ℕ) (cs qs new : List ℕ) (r : Result ℕ Refusals.Refusal) → none ≡ wholly (bytes_test d)
      → MasksOf (roles_part d) (records_in (disjoint_part d)) a
      → m ≡ role_count (roles_part d) → cs ≡ concepts_part d → qs ≡ query_part d → OpenedTold a m cs qs s old new r → Writes new r
  unfolding write_refused graph_refused
  write_opened a m cs qs new r e masks k p q T = let fine = sym (wholly_none (bytes_test d) e) in
      let w = opened_wrote (roles_part d) (concepts_part d) (query_part d) (disjoint_part d) a s old masks (parts_fine d fine) new r
      (rw (k, p, q) at T) in
      rw fine (w.says, (w.long, w.buffer))
