-- What each operation can answer on a draft that is made (02, job 4): exactly these numbers, in this order, and no other.
use Prim.Native.Nat.{ℕ}
use Rattle.std.specs.Prelude.{◌≡◌, Bool, ◌&&◌, leb, ltb}
use Rattle.std.proofs.Math.Path.{refl, ap}
use Rattle.std.proofs.Common.{sym, ◌∙◌}
use Rattle.std.proofs.Math.Option.{Option, none}
use Rattle.std.proofs.Math.ListN.{length}
use Rattle.logic.specs.Tests.{so_ltb, and_l, and_r}
use Rattle.logic.specs.Refusals.{unless, unless_then}
use Rattle.description.specs.Literals.{literal}
use Rattle.description.specs.Descriptions.{Description, Entry, Fields, fields_of, entry_of_fields, same_fields}
use Rattle.description.specs.Acceptance.{entry_test, simples_test, simple_test, distinct_test, everys_test, every_below_test, literal_test}
use Rattle.labels.specs.Labels.{most_entries}
use Rattle.intake.specs.Intake.{most_roles, most_rules}
use Rattle.editing.specs.Editing.{Draft, describes, new_role, inclusion, concept, new_root, new_rule, put_in, refusal, Made}
use Rattle.editing.proofs.Kept.{passed}
use Rattle.editing.proofs.NewInclusion.{includes, inclusion_broken}
use Rattle.editing.proofs.NewConcept.{grows, concept_broken}
use Rattle.editing.proofs.NewRole.{role_broken}
use Rattle.editing.proofs.NewQuery.{root_broken, rule_broken}

module _ (T : Draft) (m : Made T) where
  -- a role: 25, 3
  pub role_answers : (b : ℕ) → refusal T (new_role b) ≡ unless (ltb (length T.roles) most_roles) 25 (unless (leb b 1) 3 none)
  unfolding refusal
  role_answers b = ap (unless (ltb (length T.roles) most_roles) 25) (role_broken T (passed m) b)

  -- an inclusion: 3, and 5 and 7 of the description with it, 5 where both apply
  pub inclusion_answers : (r p : ℕ) → refusal T (inclusion r p)
      ≡ unless (ltb r (length T.roles) && ltb p (length T.roles)) 3
      (unless (simples_test (describes (put_in T (inclusion r p)))) 5 (unless (everys_test (describes (put_in T (inclusion r p)))) 7 none))
  unfolding refusal
  inclusion_answers r p = unless_then inside inside 3 _ _ refl
      (λ u. let hr = so_ltb r n (and_l (ltb r n) _ u) in let hp = so_ltb p n (and_r (ltb r n) _ u) in
      inclusion_broken T (passed m) r p hr hp ∙ ap (λ E. unless (simples_test E) 5 (unless (everys_test E) 7 none))
      (sym (includes T (passed m) r p hr hp)))
    where
      n : ℕ
      n = length T.roles

      inside : Bool
      inside = ltb r n && ltb p n

  -- a concept: 25, and 4, 5, 6 and 7 of the entry
  pub concept_answers : (F : Fields) → refusal T (concept F)
      ≡ unless (ltb (length T.entries) most_entries) 25
      (unless (same_fields F (fields_of (entry_of_fields F)) && entry_test (describes T) (length T.entries) (entry_of_fields F)) 4
      (unless (simple_test (describes T) (entry_of_fields F)) 5
      (unless (distinct_test (describes T) (length T.entries) (entry_of_fields F)) 6
      (unless (every_below_test (describes (put_in T (concept F))) (entry_of_fields F)) 7 none))))
  unfolding refusal
  concept_answers F = ap (unless (ltb (length T.entries) most_entries) 25)
      (concept_broken T (passed m) F ∙ ap last (sym (grows T (passed m) F)))
    where
      X : Entry
      X = entry_of_fields F

      last : Description → Option ℕ
      last G = unless (same_fields F (fields_of X) && entry_test (describes T) (length T.entries) X) 4
          (unless (simple_test (describes T) X) 5 (unless (distinct_test (describes T) (length T.entries) X) 6
          (unless (every_below_test G X) 7 none)))

  -- the root: 8
  pub root_answers : (l : ℕ) → refusal T (new_root l) ≡ unless (literal_test (describes T) (literal l)) 8 none
  unfolding refusal
  root_answers l = root_broken T (passed m) l

  -- a rule: 25, 8
  pub rule_answers : (l : ℕ) → refusal T (new_rule l) ≡ unless (ltb (length T.rules) most_rules) 25
      (unless (literal_test (describes T) (literal l)) 8 none)
  unfolding refusal
  rule_answers l = ap (unless (ltb (length T.rules) most_rules) 25) (rule_broken T (passed m) l)
