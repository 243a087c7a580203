-- A concept put into a draft that breaks nothing is tested by 4 to 7 at itself, and by nothing else (02, job 4): earlier
-- entries keep what they have, since the table only grows.
use Rattle.std.specs.Prelude.{ℕ, suc, ◌<◌, ◌≡◌, Bool, not, ◌&&◌, [], ◌∷◌, ◌++◌, ltb, get_or}
use Rattle.std.proofs.Math.Path.{refl}
use Rattle.std.proofs.Common.{◌∙◌, ap, arith}
use Rattle.std.proofs.Math.Option.{none}
use Rattle.logic.specs.Tests.{So, ◌⇒◌, so_and, and_l, imp_in, imp_out, so_ltb, ltb_so}
use Rattle.logic.specs.Bounded.{all_intro, all_elim, all_cong, any_intro, any_elim}
use Rattle.logic.specs.Lists.{length_snoc, at_snoc_old, at_snoc_new}
use Rattle.logic.specs.Refusals.{unless}
use Rattle.description.specs.Literals.{Literal, entry_of}
use Rattle.description.specs.Descriptions.{Description, Entry, top, name, both, every, at_least, Fields, fields_of, entry_of_fields}
use Rattle.description.specs.Descriptions.{same_fields, same_entry, compound, if_least, if_every}
use Rattle.description.specs.Roles.{ancestor, simple}
use Rattle.description.specs.Acceptance.{entries_test, entry_test, simples_test, simple_test, distincts_test, distinct_test, everys_test}
use Rattle.description.specs.Acceptance.{every_below_test}
use Rattle.editing.specs.Editing.{tests, Draft, is_set, describes, role_form, entry_form, query_kept, broken, concept, put_in}
use Rattle.editing.proofs.Kept.{Passes, broken_is, all_last, entry_roles, rules_kept}

module _ (T : Draft) (P : Passes T) where
  abbrev D : Description
  D = describes T

  module _ (F : Fields) where
    abbrev W : Draft
    W = put_in T (concept F)

    abbrev n : ℕ
    n = D.entries

    abbrev X : Entry
    X = entry_of_fields F

    -- the description with one entry more
    abbrev pub grown : Description
    grown = record {
      roles = D.roles;
      transitive = D.transitive;
      parents = D.parents;
      entries = suc n;
      entry = λ e. entry_of_fields (get_or (T.entries ++ (F ∷ [])) e (fields_of top));
      root = D.root;
      rules = D.rules;
      rule = D.rule;
      disjoints = D.disjoints;
      disjoint = D.disjoint;
      fourth = D.fourth;
    }

    pub grows : describes W ≡ grown
    grows = ap with_entries_lem (length_snoc T.entries F)
      where
        with_entries_lem : ℕ → Description
        with_entries_lem m = record {
          roles = D.roles;
          transitive = D.transitive;
          parents = D.parents;
          entries = m;
          entry = grown.entry;
          root = D.root;
          rules = D.rules;
          rule = D.rule;
          disjoints = D.disjoints;
          disjoint = D.disjoint;
          fourth = D.fourth;
        }

    old_entry : (e : ℕ) → e < n → grown.entry e ≡ D.entry e
    old_entry e h = ap entry_of_fields (at_snoc_old T.entries F (fields_of top) e h)

    pub new_entry : grown.entry n ≡ X
    new_entry = ap entry_of_fields (at_snoc_new T.entries F (fields_of top))

    pub simple_same : (x : Entry) → simple_test grown x ≡ simple_test D x
    unfolding simple ancestor if_least
    simple_same x = refl

    -- the entry's own tests
    abbrev four : Bool
    four = same_fields F (fields_of X) && entry_test D n X

    pub entries_last : entries_test (entry_form W) grown ≡ four
    entries_last = all_last n _ (λ e h. rw (at_snoc_old T.entries F (fields_of top) e h, entry_roles grown D e (D.entry e) refl)
        (all_elim n _ P.entries e h))
        ∙ rw (at_snoc_new T.entries F (fields_of top), entry_roles grown D n X refl) refl

    simples_last : simples_test grown ≡ simple_test D X
    simples_last = all_last n _ (λ e h. rw (old_entry e h) (simple_same (D.entry e) ∙ all_elim n _ P.simples e h))
        ∙ rw new_entry (simple_same X)

    pub distinct_same : distinct_test grown n X ≡ distinct_test D n X
    distinct_same = all_cong n _ _ (λ e he. ap (λ y. compound y ⇒ not (same_entry y X)) (old_entry e he))

    distincts_last : distincts_test grown ≡ distinct_test D n X
    distincts_last = all_last n _ (λ f hf. rw (old_entry f hf)
        (all_cong f _ _ (λ e he. ap (λ y. compound y ⇒ not (same_entry y (D.entry f))) (old_entry e (omega arith)))
        ∙ all_elim n _ P.distincts f hf))
        ∙ rw new_entry distinct_same

    more_everys : (x : Entry) → So (every_below_test D x) → So (every_below_test grown x)
    unfolding if_every ancestor
    more_everys (every s l) h = all_intro D.roles _ (λ t ht. imp_in (D.transitive t) _ (λ u. imp_in (ancestor D t s) _ (λ v.
        let w = any_elim n (λ f. same_entry (every t l) (D.entry f))
        (imp_out (ancestor D t s) _ (imp_out (D.transitive t) _ (all_elim D.roles _ h t ht) u) v) in
        any_intro (suc n) (λ f. same_entry (every t l) (grown.entry f)) w.0 (omega (arith, w.1))
        (rw (old_entry w.0 w.1) w.2))))
    more_everys top h = refl
    more_everys name h = refl
    more_everys (both a b) h = refl
    more_everys (at_least s l k) h = refl

    everys_last : everys_test grown ≡ every_below_test grown X
    everys_last = all_last n _ (λ e h. rw (old_entry e h) (more_everys (D.entry e) (all_elim n _ P.everys e h))) ∙ rw new_entry refl

    query_fine : So (query_kept W)
    query_fine = rw (length_snoc T.entries F) (so_and _ _
        (imp_in (is_set T.root) _ (λ u. wider D.root (imp_out (is_set T.root) _ (and_l _ _ P.query) u)))
        (all_intro D.rules _ (λ i h. wider (D.rule i) (all_elim D.rules _ (rules_kept T P) i h))))
      where
        wider : (l : Literal) → So (ltb (entry_of l) n) → So (ltb (entry_of l) (suc n))
        wider l u = let h = so_ltb (entry_of l) n u in ltb_so (entry_of l) (suc n) (omega arith)

    pub concept_broken : broken W
        ≡ unless four 4 (unless (simple_test D X) 5 (unless (distinct_test D n X) 6 (unless (every_below_test grown X) 7 none)))
    concept_broken = broken_is W ∙ ap (tests (role_form T) (entry_form W) (query_kept W)) grows
        ∙ rw (P.roles, entries_last, simples_last, distincts_last, everys_last, query_fine) refl
