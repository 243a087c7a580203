-- What an operation on the lent bytes does is what each function for C promises.
use Rattle.std.specs.Prelude.{ℕ, ◌≡◌, refl, List, Result, Ok, Err, OnErr}
use Rattle.std.proofs.Common.{◌∙◌, ap}
use Rattle.std.proofs.Math.Option.{none}
use Rattle.answers.specs.declared.Refusal.{Refusal}
use Rattle.answers.specs.Answers.{answer, DONE, WRITTEN, of_change, of_written}
use Rattle.editing.specs.Editing.{Edit}
use Rattle.edit_state.specs.Lent as Bytes
use Rattle.shq_c.specs.Packed.{packed}
use Rattle.shq_c.specs.Edits.{Lent, Starts, Edits, Writes}

keeps_lent : (old : List ℕ) (a : Result (Unit {0}) Refusal) (new : List ℕ) (r : ℕ) → r ≡ packed (of_change a) → Bytes.Keeps old a new → Lent old r new
keeps_lent old a new r q k = record {
  told = (of_change a, k.told, q);
  kept = left a q k.kept;
  beyond = k.beyond;
  short = λ h. q ∙ ap (λ a. packed (of_change a)) (k.short h);
}
  where
    left : (a : Result (Unit {0}) Refusal) → r ≡ packed (of_change a) → OnErr a (new ≡ old)
        → (r ≡ packed (answer DONE none) → ⊥) → new ≡ old
    left (Ok x) q f u = absurd (u q)
    left (Err z) q f u = f

pub starts_packed : (old : List ℕ) (a : Result (Unit {0}) Refusal) (new : List ℕ) (r : ℕ) → r ≡ packed (of_change a) → Bytes.Starts old a new → Starts old r new
starts_packed old a new r q w = record {
  begun = λ h. let p = w.begun h in (q ∙ ap (λ a. packed (of_change a)) p.0, p.1);
  lent = keeps_lent old a new r q w.keeps;
}

pub edits_packed : (e : Edit) (old : List ℕ) (a : Result (Unit {0}) Refusal) (new : List ℕ) (r : ℕ) → r ≡ packed (of_change a) → Bytes.Edits e old a new
    → Edits e old r new
edits_packed e old a new r q w = record {
  made = λ T m rest s. let p = w.made T rest (record { made = m; same = s }) in (q ∙ ap packed p.0, p.1);
  lent = keeps_lent old a new r q w.keeps;
}

pub writes_packed : (state old : List ℕ) (a : Result ℕ Refusal) (new : List ℕ) (r : ℕ) → r ≡ packed (of_written a)
    → Bytes.Writes state old a new → Writes state old r new
writes_packed state old a new r q w = record {
  made = λ T m rest s. let p = w.made T rest (record { made = m; same = s }) in (q ∙ ap packed p.0, p.2);
  told = (of_written a, w.told, q);
  kept = left a q w.kept;
  past = w.past;
  most = w.most;
  short = λ h. q ∙ ap (λ a. packed (of_written a)) (w.short h);
}
  where
    left : (a : Result ℕ Refusal) → r ≡ packed (of_written a) → OnErr a (new ≡ old)
        → (r ≡ packed (answer WRITTEN none) → ⊥) → new ≡ old
    left (Ok n) q f u = absurd (u q)
    left (Err z) q f u = f
