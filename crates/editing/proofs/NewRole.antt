-- A role put into a draft that breaks nothing is tested by 3 at its transitive byte, and by nothing else (02, job 4): it has
-- no ancestor but itself, and is one of no other role.
use Rattle.std.specs.Prelude.{ℕ, suc, ◌<◌, ◌≡◌, refl, Bool, true, false, ◌&&◌, [], ◌∷◌, ◌++◌, leb, get_or}
use Rattle.std.proofs.Common.{sym, ◌∙◌, ap, subst, arith}
use Rattle.std.proofs.Math.Logic.{inl, inr}
use Rattle.std.proofs.Math.Bool.{not}
use Rattle.std.proofs.Math.Option.{none}
use Rattle.std.proofs.Math.Dec.{eqb, ltb}
use Rattle.logic.specs.Tests.{So, so_and, and_l, and_r, so_not, not_so, imp_in, imp_out, so_ltb, ltb_so}
use Rattle.logic.specs.Bounded.{all_intro, all_elim, below_cases}
use Rattle.logic.specs.Lists.{length_snoc, at_snoc_old, at_snoc_new}
use Rattle.logic.specs.Refusals.{unless}
use Rattle.logic.specs.Sets.{has, narrow}
use Rattle.logic.specs.SetLaws.{narrow↔, no_member}
use Rattle.description.specs.Literals.{Literal, entry_of}
use Rattle.description.specs.Descriptions.{Description, included, Entry, top, name, both, every, at_least, if_every↔, if_least↔}
use Rattle.description.specs.Roles.{ancestor, simple, anc_refl, parent_anc}
use Rattle.description.proofs.Roles.{anc_ind, anc_trans}
use Rattle.description.specs.Acceptance.{roles_test, entries_test, entry_test, simples_test, everys_test}
use Rattle.description.proofs.Acceptance.{entry↔}
use Rattle.editing.specs.Inclusions.{ParentsIn}
use Rattle.editing.specs.Editing.{tests, RoleIn, lone_role, Draft, role_in, describes, role_form, entry_form, query_kept, broken}
use Rattle.editing.specs.Editing.{new_role, put_in}
use Rattle.editing.proofs.Kept.{Passes, broken_is, all_last, role_fine, parents_in}

module _ (T : Draft) (P : Passes T) where
  abbrev D : Description
  D = describes T

  module _ (b : ℕ) where
    abbrev R : Draft
    R = put_in T (new_role b)

    abbrev m : ℕ
    m = D.roles

    abbrev absent : RoleIn
    absent = lone_role 0

    abbrev fresh : RoleIn
    fresh = lone_role b

    -- the description with one role more
    abbrev H : Description
    H = record {
      roles = suc m;
      transitive = λ r. eqb (get_or (T.roles ++ (fresh ∷ [])) r absent).transitive 1;
      parents = λ r. (get_or (T.roles ++ (fresh ∷ [])) r absent).parents;
      entries = D.entries;
      entry = D.entry;
      root = D.root;
      rules = D.rules;
      rule = D.rule;
      disjoints = D.disjoints;
      disjoint = D.disjoint;
      fourth = D.fourth;
    }

    pub widens : describes R ≡ H
    widens = ap with_roles_lem (length_snoc T.roles fresh)
      where
        with_roles_lem : ℕ → Description
        with_roles_lem k = record {
          roles = k;
          transitive = H.transitive;
          parents = H.parents;
          entries = D.entries;
          entry = D.entry;
          root = D.root;
          rules = D.rules;
          rule = D.rule;
          disjoints = D.disjoints;
          disjoint = D.disjoint;
          fourth = D.fourth;
        }

    pub old_role : (r : ℕ) → r < m → role_in R r ≡ role_in T r
    old_role r h = at_snoc_old T.roles fresh _ r h

    pub new_role_lem : role_in R m ≡ fresh
    new_role_lem = at_snoc_new T.roles fresh _

    none_new : (s : ℕ) → So (included H m s) → ⊥
    none_new s u = no_member s (subst (λ x. So (has x.parents s)) new_role_lem u)

    old_included : (r s : ℕ) → r < m → included H r s ≡ included D r s
    old_included r s h = ap (λ x. has x.parents s) (old_role r h)

    inside : ParentsIn H
    inside r h s u = elim (below_cases r m h) [
      | inl k ↦ (let z = parents_in T P r k s (sym (old_included r s k) ∙ u) in omega arith)
      | inr k ↦ absurd (none_new s (rw k at u))
    ]

    -- old roles have the ancestors that they had, the new one has itself
    old_anc : (x y : ℕ) → x < m → So (ancestor H x y) → So (ancestor D x y) × (y < m)
    old_anc x y h u = (anc_ind H inside (λ z. So (ancestor D x z) × (z < m))
        (λ a c ha v w. (
          anc_trans D (parents_in T P) x a c h w.0 (parent_anc D a c (sym (old_included a c w.1) ∙ v)),
          parents_in T P a w.1 c (sym (old_included a c w.1) ∙ v),
        ))
        x y (omega arith) u (anc_refl D x, h)).1

    new_anc : (y : ℕ) → So (ancestor H m y) → y ≡ m
    new_anc y u = (anc_ind H inside (λ z. z ≡ m) (λ a c ha v w. absurd (none_new c (rw w at v))) m y (omega arith) u refl).1

    entry_fine : (e : ℕ) → e < D.entries → So (entry_test D e (D.entry e))
    entry_fine e h = and_r (entry_form T e) _ (all_elim D.entries _ P.entries e h)

    -- 4 holds with a role more
    wider_entry : (e : ℕ) (x : Entry) → So (entry_test D e x) → So (entry_test H e x)
    unfolding entry_test
    wider_entry e top h = h
    wider_entry e name h = h
    wider_entry e (both a c) h = h
    wider_entry e (every s l) h = so_and _ _ (let z = so_ltb s m (and_l _ _ h) in ltb_so s (suc m) (omega arith)) (and_r (ltb s m) _ h)
    wider_entry e (at_least s l k) h = let a = and_l (ltb s m && ltb (entry_of l) e) _ h in
        so_and _ _ (so_and _ _ (let z = so_ltb s m (and_l _ _ a) in ltb_so s (suc m) (omega arith)) (and_r (ltb s m) _ a))
        (and_r (ltb s m && ltb (entry_of l) e) _ h)

    -- the role that an entry names is old
    counts_old : (e : ℕ) → e < D.entries → (s : ℕ) (l : Literal) (k : ℕ) → D.entry e ≡ at_least s l k → s < m
    counts_old e h s l k q = ((entry↔ D e (at_least s l k)).0 (subst (λ x. So (entry_test D e x)) q (entry_fine e h))).0.0

    every_old : (e : ℕ) → e < D.entries → (s : ℕ) (l : Literal) → D.entry e ≡ every s l → s < m
    every_old e h s l q = ((entry↔ D e (every s l)).0 (subst (λ x. So (entry_test D e x)) q (entry_fine e h))).0

    still_simple : (s : ℕ) → s < m → So (simple D s) → So (simple H s)
    unfolding simple
    still_simple s hs u = all_intro (suc m) _ (λ t ht. so_not _ (λ v. elim (below_cases t m ht) [
      | inl k ↦ not_so _ (all_elim m (λ t. not (D.transitive t && ancestor D t s)) u t k)
          (so_and (D.transitive t) _ (ap (λ x. eqb x.transitive 1) (sym (old_role t k)) ∙ and_l (H.transitive t) _ v)
          (old_anc t s k (and_r (H.transitive t) _ v)).0)
      | inr k ↦ (let z = new_anc s (subst (λ t. So (ancestor H t s)) k (and_r (H.transitive t) _ v)) in omega arith)
    ]))

    simples_fine : So (simples_test H)
    simples_fine = all_intro D.entries _ (λ e h. (if_least↔ (λ r l k. simple H r) (D.entry e)).1 (λ s l k q.
        still_simple s (counts_old e h s l k q) ((if_least↔ (λ r l k. simple D r) (D.entry e)).0
        (all_elim D.entries _ P.simples e h) s l k q)))

    everys_fine : So (everys_test H)
    everys_fine = all_intro D.entries _ (λ e h. (if_every↔ _ (D.entry e)).1 (λ s l q. all_intro (suc m) _ (λ t ht.
        imp_in (H.transitive t) _ (λ u. imp_in (ancestor H t s) _ (λ v. elim (below_cases t m ht) [
          | inl k ↦ imp_out (ancestor D t s) _ (imp_out (D.transitive t) _
              (all_elim m _ ((if_every↔ _ (D.entry e)).0 (all_elim D.entries _ P.everys e h) s l q) t k)
              (ap (λ x. eqb x.transitive 1) (sym (old_role t k)) ∙ u)) (old_anc t s k v).0
          | inr k ↦ absurd (let z = new_anc s (subst (λ t. So (ancestor H t s)) k v) in let y = every_old e h s l q in omega arith)
        ])))))

    entries_fine : So (entries_test (entry_form T) H)
    entries_fine = all_intro D.entries _ (λ e h.
        so_and (entry_form T e) _ (and_l (entry_form T e) _ (all_elim D.entries _ P.entries e h))
        (wider_entry e (D.entry e) (entry_fine e h)))

    roles_last : roles_test (role_form R) H ≡ leb b 1
    roles_last = all_last m _ (λ r h. rw (old_role r h) (so_and (role_form T r) _ (and_l (role_form T r) _ (role_fine T P r h))
        ((narrow↔ (D.parents r) (suc m)).1 (λ s u. let z = parents_in T P r h s u in omega arith))))
        ∙ rw new_role_lem (wide (leb b 1))
      where
        wide : (c : Bool) → (c && narrow 0 (suc m)) ≡ c
        wide true = (narrow↔ 0 (suc m)).1 (λ s u. absurd (no_member s u))
        wide false = refl

    pub role_broken : broken R ≡ unless (leb b 1) 3 none
    role_broken = broken_is R ∙ ap (tests (role_form R) (entry_form T) (query_kept T)) widens
        ∙ rw (roles_last, entries_fine, simples_fine, P.distincts, everys_fine, P.query) refl
