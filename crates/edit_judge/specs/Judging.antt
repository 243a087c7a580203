-- What judges an inclusion and a concept before anything is changed: the tables as they would be, and the answer.
use Rattle.std.specs.Prelude.{ℕ, ◌*◌, ◌≤◌, ◌≡◌, refl, not, cond, List, ◌++◌, length, replicate, take, drop, Result, Ok, Err}
use Rattle.std.proofs.Common.{sym, ◌∙◌, ap, inl, inr, arith}
use Rattle.std.proofs.Math.Option.{Option, none, some}
use Rattle.logic.specs.Bounded.{all_below}
use Rattle.laying.specs.Laying.{laid}
use Rattle.roles.specs.declared.Role.{Role}
use Rattle.roles.specs.Records.{role_table}
use Rattle.answers.specs.declared.Reason.{Reason}
use Rattle.answers.specs.declared.Reason.TheVariants as is
use Rattle.answers.specs.declared.Refusal.{Refusal}
use Rattle.answers.specs.Reasons.{number_of, refused}
use Rattle.answers.specs.Answers.{wholly, answer, DONE, of_change}
use Rattle.entry_tests.specs.Everys.{every_at}
use Rattle.entry_tests.specs.Entries.{simple_at, twin_at}
use Rattle.edit_lay.specs.Lays.{with_parent}
use Rattle.editing.specs.Editing.{Draft, Edit, put_in, refusal}
use Rattle.edit_state.specs.Lent.{roles_room, state_bytes, draft_bytes, Lends, Told, Edits}
use Rattle.edit_state.specs.EditLaws.{stays}

-- the records of these roles with the bit of p in the parents of r
abbrev pub table_with : List ℕ → ℕ → ℕ → List Role
table_with rs r p = role_table (take (length rs) (drop 0 (with_parent (laid (replicate roles_room 0) 0 rs) (3 * r) p)))

-- 5, 6 and 7 of the last of the entries
abbrev pub last_test : List ℕ → ℕ → List Role → ℕ → Result (Unit {0}) Refusal
last_test cs e t n = cond (simple_at cs t e)
    (cond (all_below e (λ f. not (twin_at cs e f))) (cond (every_at cs t n e) (Ok tt) (Err (refused is.MissingEvery 0)))
    (Err (refused is.Twin 0))) (Err (refused is.Simple 0))

-- the answer of an operation, before anything is changed
pub record Judges (e : Edit) (bytes : List ℕ) (r : Result (Unit {0}) Refusal) : Type 0 where
  pub made : (T : Draft) (rest : List ℕ) → Lends bytes T rest → of_change r ≡ answer DONE (wholly (refusal T e))
  pub told : Told DONE (of_change r)

-- ---- by what was answered before
pub refused_judges : (e : Edit) (old : List ℕ) (x : Reason) (r : Refusal) → r ≡ refused x 0 → number_of x ≤ 25
    → ((T : Draft) (rest : List ℕ) → Lends old T rest → refusal T e ≡ some (number_of x)) → Judges e old (Err r)
refused_judges e old x r q u f = rw q (record {
  made = λ T rest l. sym (ap (λ o. answer DONE (wholly o)) (f T rest l));
  told = inr (number_of x, u, refl);
})

pub done_judges : (e : Edit) (old : List ℕ) → ((T : Draft) (rest : List ℕ) → Lends old T rest → refusal T e ≡ none) → Judges e old (Ok tt)
done_judges e old f = record { made = λ T rest l. sym (ap (λ o. answer DONE (wholly o)) (f T rest l)); told = inl refl }

-- nothing refuses
passes : (o : Option ℕ) → of_change (Ok (tt {0})) ≡ answer DONE (wholly o) → o ≡ none
passes none e = refl
passes (some k) e = absurd (let y = ap (λ a. a.word) e in let x : ◌≡◌ {A = ℕ} 0 1 = cc in omega arith)

pub judged_edits : (e : Edit) (old : List ℕ) (r : Result (Unit {0}) Refusal) (x : Refusal) → state_bytes ≤ length old → r ≡ Err x
    → Judges e old (Err x) → Edits e old r old
judged_edits e old r x h q f = rw q (record {
  made = λ T rest l. (
    f.made T rest l,
    l.same ∙ ap (λ U. draft_bytes U ++ rest) (stays T (put_in T e) x (refusal T e) (f.made T rest l)),
  );
  keeps = record { told = f.told; kept = refl; beyond = refl; short = λ k. absurd (omega arith) };
})

pub allowed : (e : Edit) (old : List ℕ) → Judges e old (Ok tt) → (T : Draft) (rest : List ℕ) → Lends old T rest → refusal T e ≡ none
allowed e old f T rest l = passes (refusal T e) (f.made T rest l)
