-- Worked examples: what is written out of small drafts, into buffers that are long enough and not, and before the draft is whole.
use Rattle.std.specs.Prelude.{ℕ, zero, suc, ◌≡◌, refl}
use mathlib.Core.List.{List, [], ◌∷◌, ◌++◌, map, flatten}
use Rattle.std.proofs.Math.Option.{Option, none, some}
use Rattle.description.specs.Descriptions.{Fields}
use Rattle.answers.specs.Answers.{WRITTEN, REFUSED, Answer}
use Rattle.editing.specs.Editing.{RoleIn, lone_role, Draft}
use Rattle.edit_bytes.specs.Out.{roles_out, concepts_out, out_bytes, out_refused, out_answer, out_length, out_buffer}

-- a draft, and a buffer of that many bytes, each 7
record Trial : Type 0 where
  pub draft : Draft
  pub bytes : ℕ

abbrev trial : Draft → ℕ → Trial
trial draft bytes = record { draft = draft; bytes = bytes }

sevens : ℕ → List ℕ
sevens zero = []
sevens (suc n) = 7 ∷ sevens n

-- what is answered, and the buffer afterwards
record Outcome : Type 0 where
  pub answer : Answer
  pub written : ℕ
  pub buffer : List ℕ

outcome : Trial → Outcome
outcome t = record {
  answer = out_answer t.draft t.bytes;
  written = out_length t.draft t.bytes;
  buffer = out_buffer t.draft (sevens t.bytes);
}

abbrev written : ℕ → List ℕ → Outcome
written n buffer = record { answer = record { word = WRITTEN; number = 0; place = 0 }; written = n; buffer = buffer }

abbrev refused : ℕ → ℕ → Outcome
refused number bytes = record { answer = record { word = REFUSED; number = number; place = 0 }; written = 0; buffer = sevens bytes }

-- one transitive role, top and the root top; and the same without one of them
abbrev top : Fields
top = record { kind = 0; role = 0; first = 0; second = 0; number = 0 }

abbrev transitive : RoleIn
transitive = lone_role 1

abbrev draft : List RoleIn → List Fields → Option ℕ → Draft
draft roles entries root = record { roles = roles; entries = entries; root = root; rules = [] }

abbrev smallest : Draft
smallest = draft (transitive ∷ []) (top ∷ []) (some 0)

abbrev smallest_bytes : List ℕ
smallest_bytes = 0 ∷ 12 ∷ 0 ∷ 3 ∷ 0 ∷ 15 ∷ 0 ∷ 6 ∷ 0 ∷ 21 ∷ 0 ∷ 1 ∷ 1 ∷ 0 ∷ 0 ∷ 0 ∷ 0 ∷ 0 ∷ 0 ∷ 0 ∷ 0 ∷ 0 ∷ []

-- in the order of adding: role 0 in role 1, "at least 258" of role 1, the root 2, the rules 3 and 0
abbrev ordered : Draft
ordered = record {
  roles = record { transitive = 0; parents = 2 } ∷ lone_role 0 ∷ [];
  entries = top ∷ record { kind = 4; role = 1; first = 1; second = 0; number = 258 } ∷ [];
  root = some 2;
  rules = 3 ∷ 0 ∷ [];
}

trials : List Trial
trials =
    -- 22 at 21 bytes and at none, written at 22 bytes, and at 24: the last two stay
    trial smallest 21 ∷ trial smallest 0 ∷ trial smallest 22 ∷ trial smallest 24
    -- 2: no role, no entry, no root, nothing; 2 before 22
    ∷ trial (draft [] (top ∷ []) (some 0)) 30 ∷ trial (draft (transitive ∷ []) [] (some 0)) 30
    ∷ trial (draft (transitive ∷ []) (top ∷ []) none) 30
    ∷ trial (draft [] [] none) 30 ∷ trial (draft (transitive ∷ []) (top ∷ []) none) 0
    -- the order, and numbers with the high byte first
    ∷ trial ordered 33
    ∷ []

trials_hold : map outcome trials ≡ (
    refused 22 21 ∷ refused 22 0 ∷ written 22 smallest_bytes ∷ written 22 (smallest_bytes ++ (7 ∷ 7 ∷ []))
    ∷ refused 2 30 ∷ refused 2 30 ∷ refused 2 30
    ∷ refused 2 30 ∷ refused 2 0
    ∷ written 33 (0 ∷ 12 ∷ 0 ∷ 6 ∷ 0 ∷ 18 ∷ 0 ∷ 12 ∷ 0 ∷ 30 ∷ 0 ∷ 3
    ∷ 0 ∷ 0 ∷ 2 ∷ 0 ∷ 0 ∷ 0
    ∷ 0 ∷ 0 ∷ 0 ∷ 0 ∷ 0 ∷ 0 ∷ 4 ∷ 1 ∷ 1 ∷ 0 ∷ 1 ∷ 2
    ∷ 2 ∷ 3 ∷ 0 ∷ [])
    ∷ [])
unfolding trials outcome sevens out_refused out_bytes roles_out concepts_out flatten
trials_hold = refl
