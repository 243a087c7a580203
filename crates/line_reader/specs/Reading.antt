-- The direct reading of a line (01, "The written line"): refusals 1 to 8 and 26, then 23; else HOLDS exactly if it is a model with the root.
use Rattle.std.specs.Prelude.{ℕ, ◌≡◌, refl, ◌↔◌, Bool, true, false, cond, List, [], ◌∷◌, Result, Ok}
use Rattle.std.proofs.Common.{sym, ap, arith}
use Rattle.std.proofs.lemmas.Bool.{false≢true}
use Rattle.std.proofs.Math.Option.{Option, none, some, none-ne-some}
use Rattle.logic.specs.Tests.{So}
use Rattle.logic.specs.Refusals.{Refusal, unless, refuse, unless↔, refuse↔}
use Rattle.intake.specs.Intake.{bytes_test, described, AcceptedBytes, accepted_bytes↔}
use Rattle.lines.specs.Lines.{wide_names, line_in, line_test, LineOk, line↔}
use Rattle.interpretation.specs.Meaning.{Interpretation}
use Rattle.interpretation.specs.Models.{Model, Satisfies}
use Rattle.interpretation.specs.Reading.{reads, reads↔}
use Rattle.answers.specs.declared.Reading.{Reading}
use Rattle.answers.specs.declared.Refusal as Refusals
use Rattle.answers.specs.declared.Reading.TheVariants.{Holds, Fails}
use Rattle.answers.specs.Answers as Case
use Rattle.answers.specs.Answers.{of_reading, case_when, Answer, HOLDS, FAILS, answer}

-- the refusal: 1 to 8 and 26, then 23; its record is 0
unfoldable pub read_refusal : List ℕ → List ℕ → Option Refusal
read_refusal d s = refuse 0 (bytes_test d) (refuse 0 (unless (line_test (described d) s) 23 none) none)

-- what the line is read as, with name masks as wide as the table asks
abbrev pub read_as : List ℕ → List ℕ → Interpretation
read_as d s = line_in (wide_names (described d)) s

-- HOLDS exactly if that is a model with the root
unfoldable pub read_answer : List ℕ → List ℕ → Answer
read_answer d s = answer (cond (reads (described d) (read_as d s) ((described d).root ∷ [])) HOLDS FAILS) (read_refusal d s)

-- ---- when nothing refuses, and which word then
not_refused↔ : (d s : List ℕ) → (read_refusal d s ≡ none) ↔ (AcceptedBytes d × LineOk (described d) s)
unfolding read_refusal
not_refused↔ d s = simp (refuse↔, unless↔, accepted_bytes↔, line↔) (λ h. (h.0, h.1.0.0), λ h. (h.0, ((h.1, refl), refl)))

-- two answers that are one have one word
same_word : (a b : Answer) → a ≡ b → a.word ≡ b.word
same_word a b e = ap (λ x. x.word) e

holds_said : (b : Bool) (o : Option Refusal) → (answer (cond b HOLDS FAILS) o ≡ answer HOLDS none) ↔ ((o ≡ none) × So b)
holds_said true none = (λ e. (refl, refl), λ h. refl)
holds_said false none = (λ e. absurd (let w = same_word _ _ e in let z : ◌≡◌ {A = ℕ} 0 1 = cc in omega arith), λ h. absurd (false≢true h.1))
holds_said b (some x) = (λ e. absurd (let w = same_word _ _ e in let z : ◌≡◌ {A = ℕ} 0 1 = cc in omega arith), λ h. absurd (none-ne-some x (sym h.0)))

fails_said : (b : Bool) (o : Option Refusal) → (answer (cond b HOLDS FAILS) o ≡ answer FAILS none) ↔ ((o ≡ none) × (So b → ⊥))
fails_said true none = (λ e. absurd (let w = same_word _ _ e in let z : ◌≡◌ {A = ℕ} 0 1 = cc in omega arith), λ h. absurd (h.1 refl))
fails_said false none = (λ e. (refl, false≢true), λ h. refl)
fails_said b (some x) = (λ e. absurd (let w = same_word _ _ e in let z : ◌≡◌ {A = ℕ} 0 1 = cc in omega arith), λ h. absurd (none-ne-some x (sym h.0)))

-- the line holds exactly if the description is accepted, the line keeps its form, and it is a model with the root
pub holds↔ : (d s : List ℕ) → (read_answer d s ≡ answer HOLDS none)
    ↔ (AcceptedBytes d × (LineOk (described d) s × (Model (described d) (read_as d s) × Satisfies (described d) ((described d).root ∷ []) (read_as d s))))
unfolding read_answer
holds↔ d s = (
  λ e. let h = w.0 e in let k = (not_refused↔ d s).0 h.0 in (k.0, (k.1, m.0 h.1)),
  λ h. w.1 ((not_refused↔ d s).1 (h.0, h.1.0), m.1 h.1.1),
)
  where
    m : So (reads (described d) (read_as d s) ((described d).root ∷ [])) ↔ (Model (described d) (read_as d s) × Satisfies (described d) ((described d).root ∷ []) (read_as d s))
    m = reads↔ (described d) (read_as d s) ((described d).root ∷ [])

    w : (read_answer d s ≡ answer HOLDS none) ↔ ((read_refusal d s ≡ none) × So (reads (described d) (read_as d s) ((described d).root ∷ [])))
    w = holds_said _ (read_refusal d s)

-- it fails exactly if the description is accepted, the line keeps its form, and it is no model with the root
pub fails↔ : (d s : List ℕ) → (read_answer d s ≡ answer FAILS none)
    ↔ (AcceptedBytes d × (LineOk (described d) s × ((Model (described d) (read_as d s) × Satisfies (described d) ((described d).root ∷ []) (read_as d s)) → ⊥)))
unfolding read_answer
fails↔ d s = (
  λ e. let h = w.0 e in let k = (not_refused↔ d s).0 h.0 in (k.0, (k.1, λ t. h.1 (m.1 t))),
  λ h. w.1 ((not_refused↔ d s).1 (h.0, h.1.0), λ t. h.1.1 (m.0 t)),
)
  where
    m : So (reads (described d) (read_as d s) ((described d).root ∷ [])) ↔ (Model (described d) (read_as d s) × Satisfies (described d) ((described d).root ∷ []) (read_as d s))
    m = reads↔ (described d) (read_as d s) ((described d).root ∷ [])

    w : (read_answer d s ≡ answer FAILS none) ↔ ((read_refusal d s ≡ none) × (So (reads (described d) (read_as d s) ((described d).root ∷ [])) → ⊥))
    w = fails_said _ (read_refusal d s)

-- ---- so for what read_interpretation answers
pub holds_when : (d s : List ℕ) (r : Result Reading Refusals.Refusal) → of_reading r ≡ read_answer d s → (r ≡ Ok Holds)
    ↔ (AcceptedBytes d × (LineOk (described d) s × (Model (described d) (read_as d s) × Satisfies (described d) ((described d).root ∷ []) (read_as d s))))
holds_when d s r e = case_when (of_reading r) (read_answer d s) (answer HOLDS none) e (Case.holds↔ r) (holds↔ d s)

pub fails_when : (d s : List ℕ) (r : Result Reading Refusals.Refusal) → of_reading r ≡ read_answer d s → (r ≡ Ok Fails)
    ↔ (AcceptedBytes d × (LineOk (described d) s × ((Model (described d) (read_as d s) × Satisfies (described d) ((described d).root ∷ []) (read_as d s)) → ⊥)))
fails_when d s r e = case_when (of_reading r) (read_answer d s) (answer FAILS none) e (Case.fails↔ r) (fails↔ d s)
