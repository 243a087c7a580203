-- The editor's state in bytes, as a caller lends it (02, job 4): four numbers, then the three parts with 0 behind what is there; and what
-- each operation does to them.
use Rattle.std.specs.Prelude.{ℕ, ◌+◌, ◌-◌, ◌*◌, ◌≤◌, ◌<◌, ◌≡◌, Bool, true, false, ◌⊎◌, List, [], ◌∷◌, ◌++◌, length, replicate, take, drop}
use Rattle.std.specs.Prelude.{Result, Ok, Err, IfOk, OnErr}
use Rattle.std.proofs.Math.Option.{none, some}
use Rattle.parts.specs.Numbers.{byte_at, up_to}
use Rattle.roles.specs.declared.Role.{Role}
use Rattle.roles.specs.Records.{role_table}
use Rattle.answers.specs.declared.Reason.TheVariants as is
use Rattle.answers.specs.declared.Refusal.{Refusal}
use Rattle.answers.specs.Reasons.{refused}
use Rattle.answers.specs.Answers.{wholly, Word, REFUSED, DONE, WRITTEN, Answer, answer, of_change, of_written, length_of}
use Rattle.editing.specs.Editing.{Draft, is_set, nothing, Edit, refusal, edited, Made}
use Rattle.edit_bytes.specs.Out.{roles_out, concepts_out, query_out, out_answer, out_length, out_buffer}

-- ---- the bytes of a draft
-- how many bytes each part may have, where it begins behind the four numbers, and where the last ends
abbrev pub roles_room : ℕ
roles_room = 48

abbrev pub concepts_room : ℕ
concepts_room = 384

abbrev pub query_room : ℕ
query_room = 17

abbrev pub roles_from : ℕ
roles_from = 4

abbrev pub concepts_from : ℕ
concepts_from = roles_from + roles_room

abbrev pub query_from : ℕ
query_from = concepts_from + concepts_room

abbrev pub rules_from : ℕ
rules_from = query_from + 1

abbrev pub state_bytes : ℕ
state_bytes = query_from + query_room

-- the longest description that is written out: the pairs and the parts
abbrev pub out_most : ℕ
out_most = 12 + roles_room + concepts_room + query_room

-- an array of that size: the bytes, and then 0
unfoldable pub filled : ℕ → List ℕ → List ℕ
filled size x = x ++ replicate (size - length x) 0

-- what is set is 1
abbrev pub flag : Bool → ℕ
flag true = 1
flag false = 0

-- how many roles and entries, whether a root is set, how many rules; then the three parts
abbrev pub in_bytes : ℕ → ℕ → ℕ → ℕ → List ℕ → List ℕ → List ℕ → List ℕ
in_bytes n m rooted k rs cs qs = (n ∷ m ∷ rooted ∷ k ∷ []) ++ rs ++ cs ++ qs

unfoldable pub draft_bytes : Draft → List ℕ
draft_bytes T = in_bytes (length T.roles) (length T.entries) (flag (is_set T.root)) (length T.rules)
    (filled roles_room (roles_out T)) (filled concepts_room (concepts_out T)) (filled query_room (query_out T))

-- the bytes lent are those of a draft that is made by the operations alone, and the rest
pub record Lends (bytes : List ℕ) (T : Draft) (rest : List ℕ) : Type 0 where
  pub made : Made T
  pub same : bytes ≡ draft_bytes T ++ rest

-- ---- what the code reads, of any bytes: the counts up to their limits, and the records of the roles
abbrev pub roles_in : List ℕ → ℕ
roles_in bytes = up_to 16 (byte_at bytes 0)

abbrev pub entries_in : List ℕ → ℕ
entries_in bytes = up_to 64 (byte_at bytes 1)

abbrev pub rules_in : List ℕ → ℕ
rules_in bytes = up_to 16 (byte_at bytes 3)

abbrev pub table_in : List ℕ → List Role
table_in bytes = role_table (take (3 * roles_in bytes) (drop roles_from bytes))

-- how many bytes are written out
abbrev pub size_in : List ℕ → ℕ
size_in bytes = 13 + 3 * roles_in bytes + 6 * entries_in bytes + rules_in bytes

-- ---- what an operation does
-- what is told: the word, or a refusal by one of the numbers up to 25, of record 0
abbrev pub Told : Word → Answer → Type 0
Told w a = (a ≡ answer w none) ⊎ ((n : ℕ) × (n ≤ 25) × (a ≡ answer REFUSED (wholly (some n))))

-- of every bytes: something is told, a refusal leaves them all, nothing behind the state's changes, and fewer are refused with 22
pub record Keeps (old : List ℕ) (r : Result (Unit {0}) Refusal) (new : List ℕ) : Type 0 where
  pub told : Told DONE (of_change r)
  pub kept : OnErr r (new ≡ old)
  pub beyond : drop state_bytes new ≡ drop state_bytes old
  pub short : length old < state_bytes → r ≡ Err (refused is.Short 0)

-- the start: nothing is put in
pub record Starts (old : List ℕ) (r : Result (Unit {0}) Refusal) (new : List ℕ) : Type 0 where
  pub begun : state_bytes ≤ length old → (r ≡ Ok tt) × (new ≡ draft_bytes nothing ++ drop state_bytes old)
  pub keeps : Keeps old r new

-- an operation: of the bytes of a draft that is made by the operations alone, the answer and the bytes of the draft after it
pub record Edits (e : Edit) (old : List ℕ) (r : Result (Unit {0}) Refusal) (new : List ℕ) : Type 0 where
  pub made : (T : Draft) (rest : List ℕ) → Lends old T rest
      → (of_change r ≡ answer DONE (wholly (refusal T e))) × (new ≡ draft_bytes (edited T e) ++ rest)
  pub keeps : Keeps old r new

-- writing out: of such bytes, the answer, how many bytes, and all bytes of the buffer; of every bytes, something is told, a refusal leaves
-- the buffer, and nothing behind what is written changes, nor anything behind the longest output
pub record Writes (state old : List ℕ) (r : Result ℕ Refusal) (new : List ℕ) : Type 0 where
  pub made : (T : Draft) (rest : List ℕ) → Lends state T rest
      → (of_written r ≡ out_answer T (length old)) × (length_of r ≡ out_length T (length old)) × (new ≡ out_buffer T old)
  pub told : Told WRITTEN (of_written r)
  pub kept : OnErr r (new ≡ old)
  pub size : IfOk r (λ n. n ≡ size_in state)
  pub past : drop (size_in state) new ≡ drop (size_in state) old
  pub most : drop out_most new ≡ drop out_most old
  pub short : length state < state_bytes → r ≡ Err (refused is.Short 0)
