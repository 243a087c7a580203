-- What an operation on the lent bytes does is done to the state; and what a state that holds a draft has.
use Rattle.std.specs.Prelude.{ℕ, ◌<◌, ◌≡◌, List, [], length, drop, replicate, Result, Ok, Err, IfOk, OnErr}
use Rattle.std.proofs.Common.{sym, ◌∙◌, ap, ap₂, subst, append-nil}
use Rattle.roles.specs.Records.{role_at}
use Rattle.answers.specs.declared.Refusal.{Refusal}
use Rattle.answers.specs.Answers.{wholly, answer, DONE, of_change, of_written, length_of}
use Rattle.editing.specs.Editing.{Draft, nothing, Edit, put_in, refusal, edited, Made, start, next}
use Rattle.edit_bytes.specs.Out.{out_answer, out_length, out_buffer}
use Rattle.edit_state.specs.Lent as Lent
use Rattle.edit_state.specs.Lent.{state_bytes, draft_bytes, Lends, roles_in, table_in, size_in}
use Rattle.edit_state.specs.PlaceLaws.{roles_count, table_read}
use Rattle.edit_state.specs.Held.{true_record, records_true}
use Rattle.edit_state.specs.EditLaws.{empty_bytes, stays}
use Rattle.editor.specs.declared.Editor.{Editor}
use Rattle.editor.specs.Holding.{Holds, Edits, holding, after}

-- the bytes of a state that holds a draft are that draft's, with no rest
pub lends : (s : Editor) (T : Draft) → Holds s T → Lends s.bytes T []
lends s T h = record { made = h.made; same = ap (λ s. s.bytes) h.state ∙ sym (append-nil (draft_bytes T)) }

-- bytes of a draft, with their records, hold it
holds_bytes : (bytes : List ℕ) (T : Draft) → Made T → bytes ≡ draft_bytes T → Holds (holding bytes) T
holds_bytes bytes T m e = record {
  made = m;
  state = ap₂ (λ b t. record { bytes = b; table = t }) e
      (table_read bytes T [] (record { made = m; same = e ∙ sym (append-nil (draft_bytes T)) }));
}

-- ---- nothing is put in
pub starts : (s : Editor) → s ≡ holding (replicate state_bytes 0) → Holds s nothing
starts s q = subst (λ s. Holds s nothing) (sym q) (holds_bytes (replicate state_bytes 0) nothing start (sym empty_bytes))

-- ---- an operation
-- of a state that holds a draft it does as it should
pub edits_state : (s : Editor) (e : Edit) (a : Result (Unit {0}) Refusal) (new : List ℕ) (r : Result Editor Refusal) → Lent.Edits e s.bytes a new
    → r ≡ after a new → (T : Draft) → Holds s T → Edits s T e r
edits_state s e a new r w q T h = let p = w.made T [] (lends s T h) in
    subst (Edits s T e) (sym q) (made a p.0 (p.1 ∙ append-nil (draft_bytes (edited T e))))
  where
    made : (a : Result (Unit {0}) Refusal) → of_change a ≡ answer DONE (wholly (refusal T e)) → new ≡ draft_bytes (edited T e)
        → Edits s T e (after a new)
    made (Ok x) p k = record { answer = p; state = holds_bytes new (edited T e) (next e h.made) k }
    made (Err x) p k = record { answer = p; state = subst (Holds s) (stays T (put_in T e) x (refusal T e) p) h }

-- ---- writing out
pub record Writes (s : Editor) (old : List ℕ) (r : Result ℕ Refusal) (new : List ℕ) : Type 0 where
  pub answer : (T : Draft) → Holds s T → of_written r ≡ out_answer T (length old)
  pub size : (T : Draft) → Holds s T → length_of r ≡ out_length T (length old)
  pub bytes : (T : Draft) → Holds s T → new ≡ out_buffer T old
  pub kept : OnErr r (new ≡ old)
  pub past : IfOk r (λ n. drop n new ≡ drop n old)

pub writes_state : (s : Editor) (old : List ℕ) (r : Result ℕ Refusal) (new : List ℕ) → Lent.Writes s.bytes old r new → Writes s old r new
writes_state s old r new w = record {
  answer = λ T h. (w.made T [] (lends s T h)).0;
  size = λ T h. (w.made T [] (lends s T h)).1;
  bytes = λ T h. (w.made T [] (lends s T h)).2;
  kept = w.kept;
  past = behind r w.size;
}
  where
    behind : (r : Result ℕ Refusal) → IfOk r (λ n. n ≡ size_in s.bytes) → IfOk r (λ n. drop n new ≡ drop n old)
    behind (Ok n) e = subst (λ n. drop n new ≡ drop n old) (sym e) w.past
    behind (Err x) e = tt

-- ---- what the state has
module _ (s : Editor) (T : Draft) (h : Holds s T) where
  pub held_number : roles_in s.bytes ≡ length T.roles
  held_number = roles_count s.bytes T [] (lends s T h)

  -- the record of each role that is there is true: its ancestors, and whether it is simple, are those of the description so far
  pub held_true : (i : ℕ) → i < length T.roles → role_at s.table i ≡ true_record T i
  held_true = records_true T h.made s.table (ap (λ s. s.table) h.state)
