-- Worked examples: operations one after another with their answers, each clause on both sides, and what has been put in afterwards.
use Rattle.std.specs.Prelude.{ℕ, zero, suc, ◌≡◌, refl, List, [], ◌∷◌, map}
use Rattle.std.proofs.Math.Option.{Option, none, some}
use Rattle.logic.specs.Bounded.{all_below, any_below}
use Rattle.logic.specs.Closure.{closure}
use Rattle.logic.specs.Sets.{has, narrow, with}
use Rattle.description.specs.Literals.{literal}
use Rattle.description.specs.Descriptions.{Fields, entry_from, same_entry, if_every, if_least}
use Rattle.description.specs.Roles.{ancestor, simple}
use Rattle.description.specs.Acceptance.{entry_test}
use Rattle.editing.specs.Editing.{RoleIn, Draft, broken, Edit, new_role, inclusion, concept, new_root, new_rule, nothing, refusal}
use Rattle.editing.specs.Editing.{edited}

-- ---- trials
-- an operation and its answer
record Step : Type 0 where
  pub edit : Edit
  pub answer : Option ℕ

abbrev done : Edit → Step
done e = record { edit = e; answer = none }

abbrev refused : Edit → ℕ → Step
refused e n = record { edit = e; answer = some n }

-- the answers of operations one after another, and what they leave
answers : Draft → List Step → List (Option ℕ)
answers T [] = []
answers T (s ∷ ss) = refusal T s.edit ∷ answers (edited T s.edit) ss

after : Draft → List Step → Draft
after T [] = T
after T (s ∷ ss) = after (edited T s.edit) ss

record Trial : Type 0 where
  pub from : Draft
  pub steps : List Step

abbrev trial : List Step → Trial
trial steps = record { from = nothing; steps = steps }

-- ---- what is put in
abbrev fields : ℕ → ℕ → ℕ → ℕ → ℕ → Edit
fields kind role first second number = concept (record { kind = kind; role = role; first = first; second = second; number = number })

abbrev top : Edit
top = fields 0 0 0 0 0

abbrev name : Edit
name = fields 1 0 0 0 0

abbrev both : ℕ → ℕ → Edit
both a b = fields 2 0 a b 0

abbrev every : ℕ → ℕ → Edit
every r l = fields 3 r l 0 0

abbrev at_least : ℕ → ℕ → ℕ → Edit
at_least r l n = fields 4 r l 0 n

-- the same n times
times : {A : Type 0} → ℕ → A → List A
times zero x = []
times (suc n) x = x ∷ times n x

abbrev role : ℕ → ℕ → RoleIn
role transitive parents = record { transitive = transitive; parents = parents }

abbrev top_fields : Fields
top_fields = record { kind = 0; role = 0; first = 0; second = 0; number = 0 }

-- drafts with a table near its limit: n roles; top and n names; top and n rules
abbrev with_roles : ℕ → Draft
with_roles n = record { roles = times n (role 0 0); entries = []; root = none; rules = [] }

abbrev with_names : ℕ → Draft
with_names n = record {
  roles = [];
  entries = top_fields ∷ times n (record { kind = 1; role = 0; first = 0; second = 0; number = 0 });
  root = none;
  rules = [];
}

abbrev with_rules : ℕ → Draft
with_rules n = record {
  roles = [];
  entries = top_fields ∷ [];
  root = none;
  rules = times n 0;
}

trials : List Trial
trials =
    -- 3: the transitive byte
    trial (done (new_role 1) ∷ refused (new_role 2) 3 ∷ [])
    -- 25: the 16th role and the 17th, and 25 before 3
    ∷ record { from = with_roles 15; steps = done (new_role 0) ∷ refused (new_role 0) 25 ∷ refused (new_role 2) 25 ∷ [] }
    -- 25: the 64th entry and the 65th, and 25 before 4
    ∷ record { from = with_names 62; steps = done name ∷ refused name 25 ∷ refused top 25 ∷ [] }
    -- 25: the 16th rule and the 17th, and 25 before 8
    ∷ record { from = with_rules 15; steps = done (new_rule 0) ∷ refused (new_rule 0) 25 ∷ refused (new_rule 2) 25 ∷ [] }
    -- 3: an inclusion of the last role and past it, each operand; of no role; again; full tables have room for it, and for the root
    ∷ trial (refused (inclusion 0 0) 3 ∷ done (new_role 0) ∷ done (new_role 0)
    ∷ done (inclusion 1 0) ∷ done (inclusion 0 1) ∷ refused (inclusion 2 0) 3 ∷ refused (inclusion 0 2) 3 ∷ done (inclusion 1 0)
    ∷ done (inclusion 1 1) ∷ [])
    ∷ record { from = with_roles 16; steps = done (inclusion 15 0) ∷ refused (inclusion 16 0) 3 ∷ [] }
    ∷ record { from = with_rules 16; steps = done (new_root 0) ∷ [] }
    -- 5: a counted role would not be simple; and a counted role that is none of the two
    ∷ trial (done (new_role 1) ∷ done (new_role 0) ∷ done top ∷ done (at_least 1 0 1) ∷ refused (inclusion 0 1) 5 ∷ done (inclusion 1 0) ∷ [])
    ∷ trial (done (new_role 1) ∷ done (new_role 0) ∷ done (new_role 0) ∷ done (inclusion 1 2) ∷ done top ∷ done (at_least 2 0 1)
    ∷ refused (inclusion 0 1) 5 ∷ [])
    -- 7: an "every" would be missing; of a third role; and it is there before
    ∷ trial (done (new_role 1) ∷ done (new_role 0) ∷ done top ∷ done (every 1 0) ∷ refused (inclusion 0 1) 7 ∷ done (every 0 0)
    ∷ done (inclusion 0 1) ∷ [])
    ∷ trial (done (new_role 1) ∷ done (new_role 0) ∷ done (new_role 0) ∷ done (inclusion 0 1) ∷ done top ∷ done (every 2 1)
    ∷ refused (inclusion 1 2) 7 ∷ [])
    -- 5 where both apply
    ∷ trial (done (new_role 1) ∷ done (new_role 0) ∷ done top ∷ done (every 1 0) ∷ done (at_least 1 0 1) ∷ refused (inclusion 0 1) 5 ∷ [])
    -- the same of a concept: 5 of a transitive role and of one above it; 7, and the lower "every" first
    ∷ trial (done (new_role 1) ∷ done (new_role 0) ∷ done (inclusion 0 1) ∷ done top ∷ refused (at_least 0 0 1) 5 ∷ refused (at_least 1 0 1) 5
    ∷ refused (every 1 0) 7 ∷ done (every 0 0) ∷ done (every 1 0) ∷ refused (every 1 1) 7 ∷ [])
    -- 7: two transitive roles, each in the other; their "every" come before the second inclusion, or not at all
    ∷ trial (done (new_role 1) ∷ done (new_role 1) ∷ done top ∷ done (inclusion 0 1) ∷ done (every 0 0) ∷ refused (inclusion 1 0) 7
    ∷ done (every 1 0) ∷ done (inclusion 1 0) ∷ refused (every 0 1) 7 ∷ refused (every 1 1) 7 ∷ [])
    -- 4: numbers; 4 before 5, of a role that is not simple
    ∷ trial (done (new_role 0) ∷ done (new_role 1) ∷ done top ∷ done (at_least 0 0 1000) ∷ refused (at_least 0 0 1001) 4
    ∷ refused (at_least 0 0 0) 4 ∷ refused (at_least 1 0 0) 4 ∷ [])
    -- 4: a kind that is not known, a field that is not used, a role past the table, top once more, a name as entry 0
    ∷ trial (refused name 4 ∷ refused (every 0 0) 4 ∷ done top ∷ refused top 4 ∷ refused (fields 5 0 0 0 0) 4 ∷ refused (fields 1 0 1 0 0) 4
    ∷ refused (every 0 0) 4 ∷ done (new_role 0) ∷ done (every 0 0) ∷ refused (every 1 0) 4 ∷ [])
    -- 4: the last literal before the entry, and the first past it; 6: a twin, and the same turned
    ∷ trial (done top ∷ done (both 0 1) ∷ refused (both 0 4) 4 ∷ done (both 0 3) ∷ refused (both 0 1) 6 ∷ done (both 1 0) ∷ done name
    ∷ done name ∷ [])
    -- 8: the root and a rule, before and after entry 0, and the last literal and the first past it
    ∷ trial (refused (new_root 0) 8 ∷ refused (new_rule 0) 8 ∷ done top ∷ done (new_rule 1) ∷ refused (new_rule 2) 8 ∷ done (new_root 1)
    ∷ refused (new_root 2) 8 ∷ [])
    ∷ []

trials_hold : map (λ t. answers t.from t.steps) trials ≡ map (λ t. map (λ s. s.answer) t.steps) trials
unfolding trials answers times refusal broken all_below any_below narrow entry_test literal entry_from if_least if_every simple ancestor closure has with same_entry
trials_hold = refl

-- ---- what is there afterwards: the own bit; two bits, one set twice; nothing of what was refused; the last root;
-- the rules in order, one of them before the root
drafts : map (after nothing) (
    (done (new_role 0) ∷ done (inclusion 0 0) ∷ [])
    ∷ (done (new_role 1) ∷ done (new_role 0) ∷ done (inclusion 1 0) ∷ done (inclusion 1 0) ∷ done (inclusion 1 1) ∷ refused
    (inclusion 1 2) 3 ∷ [])
    ∷ (done top ∷ refused top 4 ∷ done (new_rule 1) ∷ done (new_root 0) ∷ done (new_root 1) ∷ refused (new_root 2) 8 ∷ done (new_rule 0) ∷ [])
    ∷ []
    ) ≡ (
    record { roles = role 0 1 ∷ []; entries = []; root = none; rules = [] }
    ∷ record { roles = role 1 0 ∷ role 0 3 ∷ []; entries = []; root = none; rules = [] }
    ∷ record {
      roles = [];
      entries = top_fields ∷ [];
      root = some 1;
      rules = 1 ∷ 0 ∷ [];
    }
    ∷ [])
unfolding after refusal broken all_below any_below narrow entry_test literal entry_from if_least if_every simple ancestor closure has with same_entry
drafts = refl
