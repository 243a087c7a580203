-- Answers, and the word, number and record that each case stands for (01, "Table of refusals" and "Trial descriptions"; FORMAT 8).
use Rattle.std.specs.Prelude.{ℕ, ◌≡◌, refl, ◌↔◌, List, ◌++◌, length, drop, Result, Ok, Err}
use Rattle.std.proofs.Common.{sym, ◌∙◌, ap, arith}
use Rattle.std.proofs.Math.Option.{Option, none, some, none-ne-some}
use Rattle.logic.specs.Refusals.{Refusal, refuse}
use Rattle.answers.specs.declared.Refusal as Refusals
use Rattle.answers.specs.declared.Verdict as Verdicts
use Rattle.answers.specs.declared.Judgement as Judgements
use Rattle.answers.specs.declared.Reading as Readings
use Rattle.answers.specs.Reasons.{number_of}

-- the paper's number and record of a refusal
abbrev pub numbered : Refusals.Refusal → Refusal
numbered r = record { number = number_of r.reason; place = r.place }

-- the same of an answer; none where nothing refuses
abbrev pub refusal_of : {A : Type 0} → Result A Refusals.Refusal → Option Refusal
refusal_of (Ok x) = none
refusal_of (Err r) = some (numbered r)

-- a refusal of a whole description: its record is 0
abbrev pub wholly : Option ℕ → Option Refusal
wholly o = refuse 0 o none

-- an answer is fine exactly if nothing refuses
pub fine↔ : (t : Result (Unit {0}) Refusals.Refusal) (o : Option ℕ) → refusal_of t ≡ wholly o → (t ≡ Ok tt) ↔ (o ≡ none)
fine↔ (Ok x) none e = (λ _. refl, λ _. refl)
fine↔ (Ok x) (some n) e = absurd (let z : ◌≡◌ {A = ℕ} 0 1 = cc in omega arith)
fine↔ (Err r) none e = absurd (let z : ◌≡◌ {A = ℕ} 0 1 = cc in omega arith)
fine↔ (Err r) (some m) e = (λ q. absurd (let z : ◌≡◌ {A = ℕ} 0 1 = cc in omega arith), λ q. absurd (let z : ◌≡◌ {A = ℕ} 0 1 = cc in omega arith))

-- ---- what is told: a word, then the refusal's number and record, or 0 and 0
pub data Word : Type 0 where
  REFUSED INHABITED EMPTY WRITTEN HOLDS FAILS HOLDS_OF_NOTHING DONE : Word

pub record Answer : Type 0 where
  pub word : Word
  pub number : ℕ
  pub place : ℕ

-- the word, unless something refuses
abbrev pub answer : Word → Option Refusal → Answer
answer w none = record { word = w; number = 0; place = 0 }
answer w (some x) = record { word = REFUSED; number = x.number; place = x.place }

-- a word that is not REFUSED is told exactly if nothing refuses
pub told↔ : (w v : Word) (o : Option Refusal) → (REFUSED ≡ v → ⊥) → (answer w o ≡ answer v none) ↔ ((w ≡ v) × (o ≡ none))
told↔ w v none h = (λ e. (ap (λ x. x.word) e, refl), λ e. ap (λ x. answer x none) e.0)
told↔ w v (some x) h = (λ e. absurd (h (ap (λ y. y.word) e)), λ e. absurd (none-ne-some x (sym e.1)))

-- the word of the case, or the refusal
abbrev pub told_by : {A : Type 0} → (A → Word) → Result A Refusals.Refusal → Answer
told_by word (Ok x) = answer (word x) none
told_by word (Err r) = answer REFUSED (some (numbered r))

abbrev pub judgement_word : Judgements.Judgement → Word
judgement_word Judgements.TheVariants.Holds = HOLDS
judgement_word Judgements.TheVariants.Fails = FAILS
judgement_word Judgements.TheVariants.HoldsOfNothing = HOLDS_OF_NOTHING

abbrev pub reading_word : Readings.Reading → Word
reading_word Readings.TheVariants.Holds = HOLDS
reading_word Readings.TheVariants.Fails = FAILS

abbrev pub of_verdict : Verdicts.Verdict → Answer
of_verdict Verdicts.TheVariants.Inhabited = answer INHABITED none
of_verdict Verdicts.TheVariants.Empty = answer EMPTY none
of_verdict (Verdicts.TheVariants.Refused r) = answer REFUSED (some (numbered r))

abbrev pub of_judgement : Result Judgements.Judgement Refusals.Refusal → Answer
of_judgement = told_by judgement_word

abbrev pub of_reading : Result Readings.Reading Refusals.Refusal → Answer
of_reading = told_by reading_word

abbrev pub of_change : Result (Unit {0}) Refusals.Refusal → Answer
of_change = told_by (λ x. DONE)

-- a writer tells how many bytes it wrote
abbrev pub of_written : Result ℕ Refusals.Refusal → Answer
of_written = told_by (λ n. WRITTEN)

abbrev pub length_of : Result ℕ Refusals.Refusal → ℕ
length_of (Ok n) = n
length_of (Err r) = 0

-- ---- what a writer leaves (02, job 4)
-- what a refusal leaves, or what is there otherwise
abbrev pub unless_refused : {A : Type 0} → A → A → Option Refusal → A
unless_refused kept done none = done
unless_refused kept done (some x) = kept

-- an output, and then the old bytes
abbrev pub over : List ℕ → List ℕ → List ℕ
over out old = out ++ drop (length out) old

-- the buffer after any writer: its output over the old bytes; on a refusal all bytes are as before
abbrev pub buffered : List ℕ → List ℕ → Option Refusal → List ℕ
buffered out old o = unless_refused old (over out old) o

-- ---- the case that a word tells
pub inhabited↔ : (v : Verdicts.Verdict) → (of_verdict v ≡ answer INHABITED none) ↔ (v ≡ Verdicts.TheVariants.Inhabited)
inhabited↔ Verdicts.TheVariants.Inhabited = (λ _. refl, λ _. refl)
inhabited↔ Verdicts.TheVariants.Empty = (λ e. absurd (let w = ap (λ (x : Answer). x.word) e in let z : ◌≡◌ {A = ℕ} 0 1 = cc in omega arith), λ e. absurd (let z : ◌≡◌ {A = ℕ} 0 1 = cc in omega arith))
inhabited↔ (Verdicts.TheVariants.Refused r) = (λ e. absurd (let w = ap (λ (x : Answer). x.word) e in let z : ◌≡◌ {A = ℕ} 0 1 = cc in omega arith), λ e. absurd (let z : ◌≡◌ {A = ℕ} 0 1 = cc in omega arith))

pub empty↔ : (v : Verdicts.Verdict) → (of_verdict v ≡ answer EMPTY none) ↔ (v ≡ Verdicts.TheVariants.Empty)
empty↔ Verdicts.TheVariants.Inhabited = (λ e. absurd (let w = ap (λ (x : Answer). x.word) e in let z : ◌≡◌ {A = ℕ} 0 1 = cc in omega arith), λ e. absurd (let z : ◌≡◌ {A = ℕ} 0 1 = cc in omega arith))
empty↔ Verdicts.TheVariants.Empty = (λ _. refl, λ _. refl)
empty↔ (Verdicts.TheVariants.Refused r) = (λ e. absurd (let w = ap (λ (x : Answer). x.word) e in let z : ◌≡◌ {A = ℕ} 0 1 = cc in omega arith), λ e. absurd (let z : ◌≡◌ {A = ℕ} 0 1 = cc in omega arith))

pub written↔ : (w : Result ℕ Refusals.Refusal) → (of_written w ≡ answer WRITTEN none) ↔ (w ≡ Ok (length_of w))
written↔ (Ok n) = (λ _. refl, λ _. refl)
written↔ (Err r) = (λ e. absurd (let w = ap (λ (x : Answer). x.word) e in let z : ◌≡◌ {A = ℕ} 0 1 = cc in omega arith), λ e. absurd (let z : ◌≡◌ {A = ℕ} 0 1 = cc in omega arith))

pub holds↔ : (v : Result Readings.Reading Refusals.Refusal) → (of_reading v ≡ answer HOLDS none) ↔ (v ≡ Ok Readings.TheVariants.Holds)
holds↔ (Ok Readings.TheVariants.Holds) = (λ _. refl, λ _. refl)
holds↔ (Ok Readings.TheVariants.Fails) = (λ e. absurd (let w = ap (λ (x : Answer). x.word) e in let z : ◌≡◌ {A = ℕ} 0 1 = cc in omega arith), λ e. absurd (let z : ◌≡◌ {A = ℕ} 0 1 = cc in omega arith))
holds↔ (Err r) = (λ e. absurd (let w = ap (λ (x : Answer). x.word) e in let z : ◌≡◌ {A = ℕ} 0 1 = cc in omega arith), λ e. absurd (let z : ◌≡◌ {A = ℕ} 0 1 = cc in omega arith))

pub fails↔ : (v : Result Readings.Reading Refusals.Refusal) → (of_reading v ≡ answer FAILS none) ↔ (v ≡ Ok Readings.TheVariants.Fails)
fails↔ (Ok Readings.TheVariants.Holds) = (λ e. absurd (let w = ap (λ (x : Answer). x.word) e in let z : ◌≡◌ {A = ℕ} 0 1 = cc in omega arith), λ e. absurd (let z : ◌≡◌ {A = ℕ} 0 1 = cc in omega arith))
fails↔ (Ok Readings.TheVariants.Fails) = (λ _. refl, λ _. refl)
fails↔ (Err r) = (λ e. absurd (let w = ap (λ (x : Answer). x.word) e in let z : ◌≡◌ {A = ℕ} 0 1 = cc in omega arith), λ e. absurd (let z : ◌≡◌ {A = ℕ} 0 1 = cc in omega arith))

pub done↔ : (c : Result (Unit {0}) Refusals.Refusal) → (of_change c ≡ answer DONE none) ↔ (c ≡ Ok tt)
done↔ (Ok x) = (λ _. refl, λ _. refl)
done↔ (Err r) = (λ e. absurd (let w = ap (λ (x : Answer). x.word) e in let z : ◌≡◌ {A = ℕ} 0 1 = cc in omega arith), λ e. absurd (let z : ◌≡◌ {A = ℕ} 0 1 = cc in omega arith))

-- a function that answers as the definition says answers a case exactly when the definition tells its word
pub case_when : {A B : Type 0} (x y z : Answer) → x ≡ y → (x ≡ z) ↔ A → (y ≡ z) ↔ B → A ↔ B
case_when x y z e p q = (λ a. q.0 (sym e ∙ p.1 a), λ b. p.0 (e ∙ q.1 b))
