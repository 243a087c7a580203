-- What the writer writes, the reader answers HOLDS to (01, "The written line").
use Rattle.std.specs.Prelude.{ℕ, ◌<◌, ◌≡◌, List, length, take, drop}
use Rattle.std.proofs.Common.{◌∙◌, ap, inl, inr, arith, take_at}
use mathlib.Core.List.Memᴰ
use Rattle.std.proofs.Math.Option.{none}
use Rattle.description.specs.Descriptions.{wanted}
use Rattle.logic.specs.Lists.{◌∈◌, length_tabulate}
use Rattle.description.specs.Literals.{Literal, entry_of}
use Rattle.graph.proofs.Sound.{graph_sound}
use Rattle.lines.specs.Lines.{wide_names, line_byte, line_bytes, line_in}
use Rattle.lines.specs.Alike.{model_alike, satisfies_alike}
use Rattle.lines.proofs.LineLaws.{back, back_ok}
use Rattle.intake.specs.Intake.{described, AcceptedBytes, accepted_sizes}
use Rattle.evidence.specs.Evidence.{layout_of, graph_in}
use Rattle.line_reader.specs.Reading.{read_answer, holds↔}
use Rattle.answers.specs.Answers.{answer, WRITTEN, HOLDS, told↔, unless_refused, buffered}
use Rattle.line_writer.specs.Writing.{line_of, line_size, write_refused, write_answer, write_length, buffer_after, written↔}

-- the root is a literal of the table
wanted_in : (d : List ℕ) → AcceptedBytes d → (l : Literal) → l ∈ wanted (described d) → entry_of l < (described d).entries
wanted_in d k l m = elim (Memᴰ.cases_cons m) [ inl e ↦ rw e k.accepted.root_in | inr n ↦ elim n [ ] ]

-- the line of a kept graph, in bytes, is read as a model with the root
pub line_holds : (d s : List ℕ) (n : ℕ) → write_answer d s n ≡ answer WRITTEN none → read_answer d (line_bytes (described d) (line_of d s)) ≡ answer HOLDS none
line_holds d s n e = let w = (written↔ d s n).0 e in let D = described d in let k = w.0.0 in let z = accepted_sizes d k in
    let m = graph_sound D k.accepted (wanted D) (graph_in (layout_of D) s) w.0.1.keeps in let same = back D (line_of d s) z.3 z.1 in
    (holds↔ d (line_bytes D (line_of d s))).1 (
      k,
      (
        back_ok D (line_of d s) z.3 z.1 m.0.nonempty w.1.0,
        (
          model_alike D k.accepted (line_of d s) (line_in (wide_names D) (line_bytes D (line_of d s))) same m.0,
          satisfies_alike D k.accepted (line_of d s) (line_in (wide_names D) (line_bytes D (line_of d s))) same (wanted D) (wanted_in d k) m.1,
        ),
      ),
    )

-- so as many bytes of the buffer as are answered are answered HOLDS
pub read_back : (d s old : List ℕ) → write_answer d s (length old) ≡ answer WRITTEN none
    → read_answer d (take (write_length d s (length old)) (buffer_after d s old)) ≡ answer HOLDS none
read_back d s old e = ap (read_answer d) front ∙ line_holds d s (length old) e
  where
    none_refuses : write_refused d s (length old) ≡ none
    none_refuses = ((told↔ WRITTEN WRITTEN (write_refused d s (length old)) (λ q. let z : ◌≡◌ {A = ℕ} 0 1 = cc in omega arith)).0 e).1

    line : List ℕ
    line = line_bytes (described d) (line_of d s)

    n : ℕ
    n = line_size d s

    front : take (write_length d s (length old)) (buffer_after d s old) ≡ line
    front = ap (λ o. take (unless_refused 0 n o) (buffered line old o)) none_refuses ∙ take_at line (drop (length line) old) n (length_tabulate n (line_byte (described d) (line_of d s)))
