-- An inclusion into a draft that breaks nothing is tested by 5 and 7 of the description with it, and by nothing else (02, job 4).
use Rattle.std.specs.Prelude.{ℕ, ◌<◌, ◌≡◌, refl, Bool, cond, eqb, leb}
use Rattle.std.proofs.Common.{◌∙◌, ap, inl, inr, arith, length-set, get_or-set_same, get_or-set_other}
use Rattle.std.proofs.Math.Path.{fun_ext}
use Rattle.std.proofs.Math.Option.{none}
use Rattle.logic.specs.Tests.{So, so_and, and_l, decide, so_false, so_eqb, eqb↔}
use Rattle.logic.specs.Bounded.{all_intro}
use Rattle.logic.specs.Refusals.{unless}
use Rattle.logic.specs.Sets.{has, with}
use Rattle.logic.specs.SetLaws.{narrow↔, with↔}
use Rattle.description.specs.Descriptions.{Description}
use Rattle.description.specs.Acceptance.{roles_test, simples_test, everys_test}
use Rattle.editing.specs.Inclusions.{including}
use Rattle.editing.specs.Editing.{tests, RoleIn, Draft, role_in, describes, role_form, entry_form, query_kept, broken, inclusion, put_in}
use Rattle.editing.proofs.Kept.{Passes, broken_is, role_fine, parents_in, entries_roles}

module _ (T : Draft) (P : Passes T) where
  abbrev D : Description
  D = describes T

  module _ (r p : ℕ) (hr : r < D.roles) (hp : p < D.roles) where
    abbrev U : Draft
    U = put_in T (inclusion r p)

    abbrev E : Description
    E = including D r p

    abbrev changed : RoleIn
    changed = record { transitive = (role_in T r).transitive; parents = with (role_in T r).parents p }

    pub role_at_lem : (x : ℕ) → role_in U x ≡ cond (eqb x r) changed (role_in T x)
    role_at_lem x = elim (decide (eqb x r)) [
      | inl u ↦ rw (u, so_eqb x r u) (get_or-set_same T.roles r changed _ hr)
      | inr u ↦ rw (so_false _ u) (get_or-set_other T.roles r x changed _ (λ e. u ((eqb↔ x r).1 e)))
    ]

    pub includes : describes U ≡ E
    includes = ap (λ n. made n (describes U).transitive (describes U).parents) (length-set T.roles r changed)
        ∙ ap (λ t. made D.roles t (describes U).parents) (fun_ext same_byte) ∙ ap (made D.roles D.transitive) (fun_ext parents_at)
      where
        made : ℕ → (ℕ → Bool) → (ℕ → ℕ) → Description
        made n t m = record {
          roles = n;
          transitive = t;
          parents = m;
          entries = D.entries;
          entry = D.entry;
          root = D.root;
          rules = D.rules;
          rule = D.rule;
          disjoints = D.disjoints;
          disjoint = D.disjoint;
          fourth = D.fourth;
        }

        same_byte : (x : ℕ) → eqb (role_in U x).transitive 1 ≡ eqb (role_in T x).transitive 1
        same_byte x = ap (λ R. eqb R.transitive 1) (role_at_lem x)
            ∙ elim (decide (eqb x r)) [ inl u ↦ rw (u, so_eqb x r u) refl | inr u ↦ rw (so_false _ u) refl ]

        parents_at : (x : ℕ) → (role_in U x).parents ≡ cond (eqb x r) (with (D.parents x) p) (D.parents x)
        parents_at x = ap (λ R. R.parents) (role_at_lem x)
            ∙ elim (decide (eqb x r)) [ inl u ↦ rw (u, so_eqb x r u) refl | inr u ↦ rw (so_false _ u) refl ]

    -- 3, 4, 6 and 8 are as before, so 5 and 7 are left
    roles_fine : So (roles_test (role_form U) E)
    roles_fine = all_intro D.roles _ (λ x h. so_and (role_form U x) _ (form x h)
        ((narrow↔ (E.parents x) D.roles).1 (λ s u. inside x h s u)))
      where
        form : (x : ℕ) → x < D.roles → So (role_form U x)
        form x h = ap (λ R. leb R.transitive 1) (role_at_lem x) ∙ elim (decide (eqb x r)) [
          | inl u ↦ rw u (and_l (role_form T r) _ (role_fine T P r hr))
          | inr u ↦ rw (so_false _ u) (and_l (role_form T x) _ (role_fine T P x h))
        ]

        inside : (x : ℕ) → x < D.roles → (s : ℕ) → So (has (E.parents x) s) → s < D.roles
        inside x h s u = elim (decide (eqb x r)) [
          | inl v ↦ elim ((with↔ (D.parents x) p s).0 (rw v at u)) [ inl w ↦ parents_in T P x h s w | inr e ↦ omega arith ]
          | inr v ↦ parents_in T P x h s (rw (so_false _ v) at u)
        ]

    pub inclusion_broken : broken U ≡ unless (simples_test E) 5 (unless (everys_test E) 7 none)
    inclusion_broken = broken_is U ∙ ap (tests (role_form U) (entry_form T) (query_kept T)) includes
        ∙ rw (roles_fine, entries_roles T P E refl, P.distincts, P.query) refl
