-- The editor's state (02, job 4): the state that holds a draft, and what an operation gives.
use Rattle.std.specs.Prelude.{ℕ, ◌≡◌, List, Result, Ok, Err}
use Rattle.roles.specs.Records.{role_table}
use Rattle.answers.specs.declared.Refusal.{Refusal}
use Rattle.answers.specs.Answers.{wholly, answer, DONE, told_by}
use Rattle.editing.specs.Editing.{Draft, Edit, refusal, edited, Made}
use Rattle.edit_bytes.specs.Out.{roles_out}
use Rattle.edit_state.specs.Lent.{draft_bytes, table_in}
use Rattle.editor.specs.declared.Editor.{Editor}

-- the state that holds a draft: its bytes, and the records that a checker makes of these roles
abbrev pub state_of : Draft → Editor
state_of T = record { bytes = draft_bytes T; table = role_table (roles_out T) }

-- the state holds a draft that is made by the operations alone
pub record Holds (s : Editor) (T : Draft) : Type 0 where
  pub made : Made T
  pub state : s ≡ state_of T

-- the state after an operation: the new one, or on a refusal the one that came
abbrev pub state_after : Editor → Result Editor Refusal → Editor
state_after s (Ok t) = t
state_after s (Err x) = s

-- the operation answers as the draft does, and the state after it holds the draft after it
pub record Edits (s : Editor) (T : Draft) (e : Edit) (r : Result Editor Refusal) : Type 0 where
  pub answer : told_by (λ t. DONE) r ≡ answer DONE (wholly (refusal T e))
  pub state : Holds (state_after s r) (edited T e)

-- the state of bytes, with their records made anew
abbrev pub holding : List ℕ → Editor
holding bytes = record { bytes = bytes; table = table_in bytes }

-- that of the new bytes, unless they were refused
abbrev pub after : Result (Unit {0}) Refusal → List ℕ → Result Editor Refusal
after (Ok x) bytes = Ok (holding bytes)
after (Err x) bytes = Err x
