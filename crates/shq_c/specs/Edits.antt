-- The editor for C (include/shq.h): the caller lends the state's bytes, and each call leaves those of the next state.
use Rattle.std.specs.Prelude.{ℕ, ◌≤◌, ◌<◌, ◌≡◌, List, ◌++◌, length, drop}
use Rattle.std.proofs.Math.Option.{none, some}
use Rattle.answers.specs.Answers.{wholly, REFUSED, DONE, WRITTEN, Answer, answer}
use Rattle.editing.specs.Editing.{Draft, nothing, Edit, concept, refusal, edited, Made}
use Rattle.edit_bytes.specs.Out.{out_answer, out_buffer}
use Rattle.edit_state.specs.Lent.{state_bytes, out_most, draft_bytes, size_in, Told}
use Rattle.shq_c.specs.Packed.{packed}

-- "short": 22
abbrev pub too_short : ℕ
too_short = packed (answer REFUSED (wholly (some 22)))

-- adding a concept, by its five fields
abbrev pub concept_of : ℕ → ℕ → ℕ → ℕ → ℕ → Edit
concept_of kind role first second number = concept (record { kind = kind; role = role; first = first; second = second; number = number })

-- of every bytes: something is told, what is not done leaves them all, nothing behind the state's changes, and fewer are refused
pub record Lent (old : List ℕ) (r : ℕ) (new : List ℕ) : Type 0 where
  pub told : (a : Answer) × Told DONE a × (r ≡ packed a)
  pub kept : (r ≡ packed (answer DONE none) → ⊥) → new ≡ old
  pub beyond : drop state_bytes new ≡ drop state_bytes old
  pub short : length old < state_bytes → r ≡ too_short

-- the start: nothing is put in
pub record Starts (old : List ℕ) (r : ℕ) (new : List ℕ) : Type 0 where
  pub begun : state_bytes ≤ length old → (r ≡ packed (answer DONE none)) × (new ≡ draft_bytes nothing ++ drop state_bytes old)
  pub lent : Lent old r new

-- an operation: of the bytes of a draft that is made by the operations alone, the answer and the bytes of the draft after it
pub record Edits (e : Edit) (old : List ℕ) (r : ℕ) (new : List ℕ) : Type 0 where
  pub made : (T : Draft) → Made T → (rest : List ℕ) → old ≡ draft_bytes T ++ rest
      → (r ≡ packed (answer DONE (wholly (refusal T e)))) × (new ≡ draft_bytes (edited T e) ++ rest)
  pub lent : Lent old r new

-- writing out: of such bytes, the answer and all bytes of the buffer; of every bytes, something is told, what is not written leaves the
-- buffer, and nothing behind what is written changes, nor anything behind the longest output
pub record Writes (state old : List ℕ) (r : ℕ) (new : List ℕ) : Type 0 where
  pub made : (T : Draft) → Made T → (rest : List ℕ) → state ≡ draft_bytes T ++ rest
      → (r ≡ packed (out_answer T (length old))) × (new ≡ out_buffer T old)
  pub told : (a : Answer) × Told WRITTEN a × (r ≡ packed a)
  pub kept : (r ≡ packed (answer WRITTEN none) → ⊥) → new ≡ old
  pub past : drop (size_in state) new ≡ drop (size_in state) old
  pub most : drop out_most new ≡ drop out_most old
  pub short : length state < state_bytes → r ≡ too_short
