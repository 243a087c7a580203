-- An operation answers and leaves what it should: a refusal leaves every byte, what is done leaves the bytes of the draft with it put in.
use Rattle.std.specs.Prelude.{ℕ, ◌≤◌, ◌<◌, ◌≡◌, refl, length, drop, replicate, Result, Ok, Err}
use Rattle.std.proofs.Common.{sym, ◌∙◌, ap, inl, inr, arith}
use mathlib.Core.List.{List, ◌++◌, flatten}
use Rattle.std.proofs.Math.Option.{Option, none, some}
use Rattle.laying.specs.Laying.{laid}
use Rattle.answers.specs.declared.Reason.{Reason}
use Rattle.answers.specs.declared.Reason.TheVariants as is
use Rattle.answers.specs.declared.Refusal.{Refusal}
use Rattle.answers.specs.Reasons.{number_of, refused}
use Rattle.answers.specs.Answers.{wholly, answer, DONE, of_change, unless_refused}
use Rattle.editing.specs.Editing.{Draft, nothing, Edit, put_in, refusal}
use Rattle.edit_bytes.specs.Out.{roles_out, concepts_out}
use Rattle.edit_state.specs.Lent.{state_bytes, filled, draft_bytes, Lends, Keeps, Starts, Edits}
use Rattle.edit_state.specs.PlaceLaws.{enough, laid_beyond}

-- ---- of every bytes
keeps_refused : (old : List ℕ) (x : Reason) → number_of x ≤ 25 → (length old < state_bytes → x ≡ is.Short) → Keeps old (Err (refused x 0)) old
keeps_refused old x h f = record {
  told = inr (number_of x, h, refl);
  kept = refl;
  beyond = refl;
  short = λ h. ap (λ x. Err (refused x 0)) (f h);
}

keeps_done : (old new : List ℕ) → state_bytes ≤ length old → drop state_bytes new ≡ drop state_bytes old → Keeps old (Ok tt) new
keeps_done old new h e = record {
  told = inl refl;
  kept = tt;
  beyond = e;
  short = λ k. absurd (omega arith);
}

-- ---- an operation
pub short_edits : (e : Edit) (old : List ℕ) (r : Result (Unit {0}) Refusal) → r ≡ Err (refused is.Short 0) → length old < state_bytes → Edits e old r old
short_edits e old r q h = rw q (record {
  made = λ T rest l. absurd (omega (arith, enough old T rest l));
  keeps = keeps_refused old is.Short (omega arith) (λ _. refl);
})

pub refused_edits : (e : Edit) (old : List ℕ) (x : Reason) (r : Refusal) → r ≡ refused x 0 → number_of x ≤ 25 → state_bytes ≤ length old
    → ((T : Draft) (rest : List ℕ) → Lends old T rest → refusal T e ≡ some (number_of x)) → Edits e old (Err r) old
refused_edits e old x r z u h f = rw z (record {
  made = λ T rest l. let q = f T rest l in (
    sym (ap (λ o. answer DONE (wholly o)) q),
    l.same ∙ sym (ap (λ o. draft_bytes (unless_refused T (put_in T e) (wholly o)) ++ rest) q),
  );
  keeps = keeps_refused old x u (λ k. absurd (omega arith));
})

pub done_edits : (e : Edit) (old new : List ℕ) → state_bytes ≤ length old
    → ((T : Draft) (rest : List ℕ) → Lends old T rest → (refusal T e ≡ none) × (new ≡ draft_bytes (put_in T e) ++ rest))
    → drop state_bytes new ≡ drop state_bytes old → Edits e old (Ok tt) new
done_edits e old new h f g = record {
  made = λ T rest l. let q = f T rest l in (
    sym (ap (λ o. answer DONE (wholly o)) q.0),
    q.1 ∙ sym (ap (λ o. draft_bytes (unless_refused T (put_in T e) (wholly o)) ++ rest) q.0),
  );
  keeps = keeps_done old new h g;
}

-- the draft stays
pub stays : (T U : Draft) (r : Refusal) (o : Option ℕ) → of_change (Err r) ≡ answer DONE (wholly o) → T ≡ unless_refused T U (wholly o)
stays T U r none e = absurd (let y = ap (λ a. a.word) e in let x : ◌≡◌ {A = ℕ} 0 1 = cc in omega arith)
stays T U r (some k) e = refl

-- ---- the start
pub short_starts : (old : List ℕ) (r : Result (Unit {0}) Refusal) → r ≡ Err (refused is.Short 0) → length old < state_bytes → Starts old r old
short_starts old r q h = rw q (record { begun = λ k. absurd (omega arith); keeps = keeps_refused old is.Short (omega arith) (λ _. refl) })

pub empty_bytes : draft_bytes nothing ≡ replicate state_bytes 0
unfolding draft_bytes filled roles_out concepts_out flatten
empty_bytes = refl

pub done_starts : (old : List ℕ) → state_bytes ≤ length old → Starts old (Ok tt) (laid old 0 (replicate state_bytes 0))
unfolding laid
done_starts old h = record {
  begun = λ _. (refl, ap (λ b. b ++ drop state_bytes old) (sym empty_bytes));
  keeps = keeps_done old (laid old 0 (replicate state_bytes 0)) h (laid_beyond old 0 (replicate state_bytes 0) (omega arith) h);
}
