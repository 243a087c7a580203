-- What the editor writes out (02, job 4): three pairs, and the parts as they were put in; what it answers, and all bytes of
-- the buffer.
use Rattle.std.specs.Prelude.{ℕ, ◌+◌, Bool, ◌&&◌, leb, length}
use mathlib.Core.List.{List, ◌∷◌, ◌++◌, map, flatten}
use Rattle.std.proofs.Math.Option.{Option, none}
use Rattle.logic.specs.Refusals.{unless}
use Rattle.laying.specs.Numbers.{two}
use Rattle.description.specs.Descriptions.{Fields}
use Rattle.answers.specs.Answers.{wholly, Answer, answer, WRITTEN, unless_refused, buffered}
use Rattle.editing.specs.Editing.{RoleIn, Draft, is_set, root_of}

-- ---- the bytes
-- a role: its transitive byte, then its parents
abbrev pub role_bytes : RoleIn → List ℕ
role_bytes R = R.transitive ∷ two R.parents

-- an entry: kind, role, two literals, then its number
abbrev pub entry_bytes : Fields → List ℕ
entry_bytes F = F.kind ∷ F.role ∷ F.first ∷ F.second ∷ two F.number

-- the three parts: roles and concepts in the order of adding; the root, then the rules
unfoldable pub roles_out : Draft → List ℕ
roles_out T = flatten (map role_bytes T.roles)

unfoldable pub concepts_out : Draft → List ℕ
concepts_out T = flatten (map entry_bytes T.entries)

abbrev pub query_out : Draft → List ℕ
query_out T = root_of T.root ∷ T.rules

-- the pair of a part that begins there
abbrev pub pair : ℕ → List ℕ → List ℕ
pair at s = two at ++ two (length s)

-- three pairs, and the parts behind them from 12 on
abbrev pub with_pairs : List ℕ → List ℕ → List ℕ → List ℕ
with_pairs rs cs qs = pair 12 rs ++ (pair (12 + length rs) cs ++ (pair (12 + length rs + length cs) qs ++ (rs ++ (cs ++ qs))))

unfoldable pub out_bytes : Draft → List ℕ
out_bytes T = with_pairs (roles_out T) (concepts_out T) (query_out T)

-- ---- what writing out answers
-- 2: a role, entry 0 and a root are there
abbrev pub whole : Draft → Bool
whole T = leb 1 (length T.roles) && (leb 1 (length T.entries) && is_set T.root)

-- 2 before 22, for a buffer of n bytes
unfoldable pub out_refused : Draft → ℕ → Option ℕ
out_refused T n = unless (whole T) 2 (unless (leb (length (out_bytes T)) n) 22 none)

abbrev pub out_answer : Draft → ℕ → Answer
out_answer T n = answer WRITTEN (wholly (out_refused T n))

-- how many bytes are told to be written: all, or 0
abbrev pub out_length : Draft → ℕ → ℕ
out_length T n = unless_refused 0 (length (out_bytes T)) (wholly (out_refused T n))

-- the buffer afterwards
abbrev pub out_buffer : Draft → List ℕ → List ℕ
out_buffer T old = buffered (out_bytes T) old (wholly (out_refused T (length old)))
