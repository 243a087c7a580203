-- The root and a rule, put into a draft that breaks nothing, are tested by 8 at themselves, and by nothing else (02, job 4):
-- 3 to 7 do not look at them.
use Rattle.std.specs.Prelude.{ℕ, ◌≡◌, Bool, true, false, ◌&&◌, List, [], ◌∷◌, ◌++◌, length, get_or}
use Rattle.std.proofs.Math.Path.{refl}
use Rattle.std.proofs.Common.{◌∙◌, ap}
use Rattle.std.proofs.Math.Option.{none}
use Rattle.logic.specs.Tests.{So, ◌⇒◌, and_l}
use Rattle.logic.specs.Bounded.{all_below, all_elim}
use Rattle.logic.specs.Lists.{length_snoc, at_snoc_old, at_snoc_new}
use Rattle.logic.specs.Refusals.{unless}
use Rattle.description.specs.Literals.{Literal, literal}
use Rattle.description.specs.Descriptions.{Description, if_least, if_every}
use Rattle.description.specs.Roles.{ancestor, simple}
use Rattle.description.specs.Acceptance.{simples_test, everys_test, literal_test}
use Rattle.editing.specs.Editing.{tests, Draft, is_set, describes, role_form, entry_form, query_kept, broken, new_root, new_rule, put_in}
use Rattle.editing.proofs.Kept.{Passes, broken_is, all_last, entries_roles, rules_kept}

module _ (T : Draft) (P : Passes T) where
  abbrev D : Description
  D = describes T

  -- the description with another query
  module _ (root : Literal) (rules : ℕ) (rule : ℕ → Literal) where
    abbrev Q : Description
    Q = record {
      roles = D.roles;
      transitive = D.transitive;
      parents = D.parents;
      entries = D.entries;
      entry = D.entry;
      root = root;
      rules = rules;
      rule = rule;
      disjoints = D.disjoints;
      disjoint = D.disjoint;
      fourth = D.fourth;
    }

    simple_alike : simples_test Q ≡ simples_test D
    unfolding simple ancestor if_least
    simple_alike = refl

    every_alike : everys_test Q ≡ everys_test D
    unfolding ancestor if_every
    every_alike = refl

    query_left : (q : Bool) → tests (role_form T) (entry_form T) q Q ≡ unless q 8 none
    query_left q = rw (P.roles, entries_roles T P Q refl, simple_alike ∙ P.simples, P.distincts, every_alike ∙ P.everys) refl

  pub root_broken : (l : ℕ) → broken (put_in T (new_root l)) ≡ unless (literal_test D (literal l)) 8 none
  root_broken l = broken_is (put_in T (new_root l)) ∙ query_left (literal l) D.rules D.rule (query_kept (put_in T (new_root l)))
      ∙ ap (λ b. unless b 8 none) (ap (λ b. literal_test D (literal l) && b) (rules_kept T P) ∙ last (literal_test D (literal l)))
    where
      last : (b : Bool) → (b && true) ≡ b
      last true = refl
      last false = refl

  pub rule_broken : (l : ℕ) → broken (put_in T (new_rule l)) ≡ unless (literal_test D (literal l)) 8 none
  rule_broken l = broken_is (put_in T (new_rule l)) ∙ query_left D.root (length rules) (λ i. literal (get_or rules i 0))
      (query_kept (put_in T (new_rule l)))
      ∙ ap (λ b. unless b 8 none) (ap (λ b. b && all_below (length rules) test) root_kept ∙ told)
    where
      rules : List ℕ
      rules = T.rules ++ (l ∷ [])

      test : ℕ → Bool
      test i = literal_test D (literal (get_or rules i 0))

      root_kept : So (is_set T.root ⇒ literal_test D D.root)
      root_kept = and_l (is_set T.root ⇒ literal_test D D.root) (all_below D.rules (λ i. literal_test D (D.rule i))) P.query

      told : all_below (length rules) test ≡ literal_test D (literal l)
      told = rw (length_snoc T.rules l)
          (all_last D.rules test (λ i h. rw (at_snoc_old T.rules l 0 i h) (all_elim D.rules _ (rules_kept T P) i h))
          ∙ rw (at_snoc_new T.rules l 0) refl)
