-- Every draft that breaks none of 3 to 8 and is within the limits is made by the operations (02, job 4): roles, concepts, inclusions,
-- root and rules, in this order, since without parents a role's only ancestor is itself and fewer parents break no more.
use Prim.Native.Nat.{ℕ, zero, suc, ◌+◌, ◌*◌, ◌/◌, ◌%◌, ◌≤◌, ◌<◌}
use Rattle.std.specs.Prelude.{◌≡◌, ◌↔◌, ◌⊎◌, ◌&&◌, [], eqb, ltb, length, set}
use Rattle.std.proofs.Math.Path.{refl}
use Rattle.std.proofs.Common.{sym, ◌∙◌, ap, subst, inl, inr, arith, length-set, ext_get_or, get_or-set_same, get_or-set_other}
use Rattle.std.proofs.Math.Bool.{not}
use Rattle.std.proofs.Math.Option.{Option, none, some}
use Rattle.std.proofs.Math.Decide.{dec_lt}
use Rattle.std.proofs.Math.ListN.{get_or, get_or-eq_default}
use Rattle.logic.specs.Tests.{So, ◌⇒◌, so_and, and_l, and_r, so_not, not_so, imp_in, imp_out, decide, so_ltb, ltb_so, so_eqb, eqb↔}
use Rattle.logic.specs.Bounded.{all_intro, all_elim, any_intro, any_elim}
use Rattle.logic.specs.Lists.{tabulate, length_tabulate, at_tabulate, tabulate_snoc, tabulate_cong}
use Rattle.logic.specs.Sets.{has, narrow, with, set_of}
use Rattle.logic.specs.SetLaws.{narrow↔, with↔, set_of↔, set_ext, no_member}
use Rattle.description.specs.Literals.{Literal, entry_of, literal}
use Rattle.description.specs.Descriptions.{Description, included, Entry, top, every, fields_of, entry_of_fields, same_entry, same_entry↔}
use Rattle.description.specs.Descriptions.{if_every↔, if_least↔}
use Rattle.description.specs.Roles.{ancestor, simple, anc_refl, parent_anc}
use Rattle.description.proofs.Roles.{anc_ind, anc_trans}
use Rattle.description.specs.Acceptance.{entry_test, simples_test, simple_test, distinct_test, everys_test, every_below_test, literal_test}
use Rattle.labels.specs.Labels.{most_entries}
use Rattle.intake.specs.Intake.{most_roles, most_rules}
use Rattle.editing.specs.Inclusions.{ParentsIn, including, included↔, still_inside}
use Rattle.editing.specs.Editing.{RoleIn, lone_role, Draft, role_in, fields_in, is_set, root_of, describes, role_form, entry_form, broken}
use Rattle.editing.specs.Editing.{new_role, inclusion, concept, new_root, new_rule, put_in, Made, start}
use Rattle.editing.proofs.Kept.{Passes, passes↔, passed, made_kept, Few, made_next, parents_in, entry_roles, rules_kept}
use Rattle.editing.proofs.Kept as Kept
use Rattle.editing.proofs.NewInclusion.{inclusion_broken}
use Rattle.editing.proofs.NewConcept.{grown, new_entry, concept_broken}
use Rattle.editing.proofs.NewRole.{role_broken}
use Rattle.editing.proofs.NewQuery.{root_broken, rule_broken}

-- of roles that have no parents, each has itself alone as ancestor
alone : (D : Description) → ((a s : ℕ) → So (included D a s) → ⊥) → (r s : ℕ) → r < D.roles → So (ancestor D r s) → s ≡ r
alone D f r s h u = (anc_ind D (λ a _ s v. absurd (f a s v)) (λ z. z ≡ r) (λ a b _ v _. absurd (f a b v)) r s h u refl).1

module _ (T : Draft) (P : Passes T) (few : Few T) where
  abbrev D : Description
  D = describes T

  abbrev n : ℕ
  n = length T.roles

  role_fine : (r : ℕ) → r < n → So (role_form T r && narrow (D.parents r) n)
  role_fine = Kept.role_fine T P

  entry_fine : (e : ℕ) → e < D.entries → So (entry_form T e && entry_test D e (D.entry e))
  entry_fine e h = all_elim D.entries _ P.entries e h

  abbrev none_role : RoleIn
  none_role = lone_role 0

  -- ---- the roles
  abbrev bare : ℕ → RoleIn
  bare i = lone_role (role_in T i).transitive

  abbrev with_roles : ℕ → Draft
  with_roles k = record { roles = tabulate k bare; entries = []; root = none; rules = [] }

  roles_made : (k : ℕ) → k ≤ n → Made (with_roles k)
  unfolding tabulate
  roles_made zero h = start
  roles_made (suc k) h = let m = roles_made k (omega arith) in
      rw (tabulate_snoc k bare) (made_next (with_roles k) (new_role (role_in T k).transitive) m
      (ltb_so (length (tabulate k bare)) most_roles (omega (arith, length_tabulate k bare))) refl
      (role_broken (with_roles k) (passed m) (role_in T k).transitive ∙ rw (and_l (role_form T k) _ (role_fine k h)) refl))

  -- ---- the concepts
  abbrev with_entries : ℕ → Draft
  with_entries k = record { roles = tabulate n bare; entries = tabulate k (fields_in T); root = none; rules = [] }

  module _ (k : ℕ) (h : k < D.entries) (m : Made (with_entries k)) where
    abbrev C : Description
    C = describes (with_entries k)

    abbrev X : Entry
    X = D.entry k

    count_roles : C.roles ≡ n
    count_roles = length_tabulate n bare

    count_entries : C.entries ≡ k
    count_entries = length_tabulate k (fields_in T)

    entry_at : (e : ℕ) → e < k → C.entry e ≡ D.entry e
    entry_at e l = ap entry_of_fields (at_tabulate k (fields_in T) (fields_of top) e l)

    same_byte : (t : ℕ) → t < n → C.transitive t ≡ D.transitive t
    same_byte t l = ap (λ R. eqb R.transitive 1) (at_tabulate n bare none_role t l)

    no_parents : (a s : ℕ) → So (included C a s) → ⊥
    no_parents a s u = elim (dec_lt a n) [
      | yes l ↦ no_member s (subst (λ R. So (has R.parents s)) (at_tabulate n bare none_role a l) u)
      | no l ↦ no_member s (subst (λ R. So (has R.parents s))
          (get_or-eq_default (tabulate n bare) none_role (let z : length (tabulate n bare) ≤ a = omega (arith, count_roles) in z)) u)
    ]

    itself : (t r : ℕ) → t < n → So (ancestor C t r) → r ≡ t
    itself t r l u = alone C no_parents t r (rw count_roles l) u

    simple_fine : So (simple_test C X)
    unfolding simple
    simple_fine = (if_least↔ (λ r l k. simple C r) X).1 (λ r l j q.
        all_intro C.roles _ (λ t ht. so_not _ (λ v. let g : t < n = rw count_roles at ht in
        let z = itself t r g (and_r (C.transitive t) _ v) in
        not_so _ (all_elim n (λ t. not (D.transitive t && ancestor D t r))
        ((if_least↔ (λ r l k. simple D r) X).0 (all_elim D.entries _ P.simples k h) r l j q) t g)
        (so_and (D.transitive t) _ (sym (same_byte t g) ∙ and_l (C.transitive t) _ v) (rw z (anc_refl D t))))))

    distinct_fine : So (distinct_test C C.entries X)
    distinct_fine = rw count_entries (all_intro k _ (λ e l. rw (entry_at e l)
        (all_elim k _ (all_elim D.entries _ P.distincts k h) e l)))

    -- the entries play no part in ancestors
    same_anc : (t r : ℕ) → So (ancestor (grown (with_entries k) (passed m) (fields_in T k)) t r) → So (ancestor C t r)
    unfolding ancestor
    same_anc t r u = u

    concept_made : Made (with_entries (suc k))
    concept_made = rw (tabulate_snoc k (fields_in T)) (made_next (with_entries k) (concept (fields_in T k)) m
        (ltb_so (length (tabulate k (fields_in T))) most_entries (omega (arith, count_entries))) refl
        (concept_broken (with_entries k) (passed m) (fields_in T k) ∙ rw (four_fine, simple_fine, distinct_fine, every_fine) refl))
      where
        four_fine : So (entry_form T k && entry_test C C.entries X)
        four_fine = so_and (entry_form T k) _ (and_l (entry_form T k) _ (entry_fine k h))
            (ap (λ e. entry_test C e X) count_entries ∙ entry_roles C D k X count_roles ∙ and_r (entry_form T k) _ (entry_fine k h))

        every_fine : So (every_below_test (grown (with_entries k) (passed m) (fields_in T k)) X)
        every_fine = (if_every↔ _ X).1 (λ r l q. all_intro C.roles _
            (λ t ht. imp_in (C.transitive t) _ (λ u. imp_in (ancestor (grown (with_entries k) (passed m) (fields_in T k)) t r) _ (λ v.
            any_intro (suc C.entries) (λ f. same_entry (every t l) ((grown (with_entries k) (passed m) (fields_in T k)).entry f))
            C.entries (omega arith)
            ((same_entry↔ (every t l) _).1 (ap (λ x. every x l) (sym (itself t r (rw count_roles at ht) (same_anc t r v))) ∙ sym q
            ∙ sym (new_entry (with_entries k) (passed m) (fields_in T k))))))))

  entries_made : (k : ℕ) → k ≤ D.entries → Made (with_entries k)
  unfolding tabulate
  entries_made zero h = roles_made n (omega arith)
  entries_made (suc k) h = concept_made k h (entries_made k (omega arith))

  -- ---- the inclusions, one bit after another: of role j / 16 in role j % 16
  abbrev some_parents : ℕ → ℕ → ℕ
  some_parents j r = set_of 16 (λ p. has (role_in T r).parents p && ltb (16 * r + p) j)

  abbrev role_to : ℕ → ℕ → RoleIn
  role_to j r = record { transitive = (role_in T r).transitive; parents = some_parents j r }

  abbrev with_parents : ℕ → Draft
  with_parents j = record { roles = tabulate n (role_to j); entries = tabulate D.entries (fields_in T); root = none; rules = [] }

  parents↔ : (j r p : ℕ) → So (has (some_parents j r) p) ↔ ((p < 16) × (So (has (role_in T r).parents p) × (16 * r + p < j)))
  parents↔ j r p = (
    λ u. let w = (set_of↔ 16 (λ p. has (role_in T r).parents p && ltb (16 * r + p) j) p).0 u in
        (w.0, (and_l _ _ w.1, so_ltb _ j (and_r (has (role_in T r).parents p) _ w.1))),
    λ w. (set_of↔ 16 (λ p. has (role_in T r).parents p && ltb (16 * r + p) j) p).1 (w.0, so_and _ _ w.1.0 (ltb_so _ j w.1.1)),
  )

  -- what holds of fewer parents: ancestors among those of T
  module _ (E : Description) (roles : E.roles ≡ n) (inside : ParentsIn E)
      (fewer : (a s : ℕ) → a < n → So (included E a s) → So (included D a s)) where
    anc_within : (r s : ℕ) → r < n → So (ancestor E r s) → So (ancestor D r s)
    anc_within r s h u = (anc_ind E inside (λ z. So (ancestor D r z) × (z < n))
        (λ a b ha v w. let f = fewer a b w.1 v in
        (anc_trans D (parents_in T P) r a b h w.0 (parent_anc D a b f), parents_in T P a w.1 b f)) r s (rw roles h) u
        (anc_refl D r, h)).1.0

    -- so 5 and 7 hold, if the entries and the transitive roles are those of T
    module _ (bytes : (t : ℕ) → t < n → E.transitive t ≡ D.transitive t) (count : E.entries ≡ D.entries)
        (entries : (e : ℕ) → e < D.entries → E.entry e ≡ D.entry e) where
      simples_within : So (simples_test E)
      unfolding simple
      simples_within = all_intro E.entries _ (λ e he. let h : e < D.entries = rw count at he in
          (if_least↔ (λ r l k. simple E r) (E.entry e)).1 (λ r l k q.
          all_intro E.roles _ (λ t ht. let g : t < n = rw roles at ht in so_not _ (λ v.
          not_so _ (all_elim n (λ t. not (D.transitive t && ancestor D t r))
          ((if_least↔ (λ r l k. simple D r) (D.entry e)).0 (all_elim D.entries _ P.simples e h) r l k (sym (entries e h) ∙ q)) t g)
          (so_and (D.transitive t) _ (sym (bytes t g) ∙ and_l (E.transitive t) _ v) (anc_within t r g (and_r (E.transitive t) _ v)))))))

      everys_within : So (everys_test E)
      everys_within = all_intro E.entries _ (λ e he. let h : e < D.entries = rw count at he in
          (if_every↔ _ (E.entry e)).1 (λ r l q. all_intro E.roles _ (λ t ht. let g : t < n = rw roles at ht in
          imp_in (E.transitive t) _ (λ u. imp_in (ancestor E t r) _ (λ v.
          let w = any_elim D.entries (λ f. same_entry (every t l) (D.entry f))
          (imp_out (ancestor D t r) _ (imp_out (D.transitive t) _
          (all_elim n _ ((if_every↔ _ (D.entry e)).0 (all_elim D.entries _ P.everys e h) r l (sym (entries e h) ∙ q)) t g)
          (sym (bytes t g) ∙ u)) (anc_within t r g v)) in
          any_intro E.entries (λ f. same_entry (every t l) (E.entry f)) w.0 (bound w.0 w.1)
          (found t l w.0 w.1 w.2))))))
        where
          bound : (f : ℕ) → f < D.entries → f < E.entries
          bound f k = rw count k

          found : (t : ℕ) (l : Literal) (f : ℕ) → f < D.entries → So (same_entry (every t l) (D.entry f))
              → So (same_entry (every t l) (E.entry f))
          found t l f k u = rw (entries f k) u

  role_to_lem : (j r : ℕ) → r < n → role_in (with_parents j) r ≡ role_to j r
  role_to_lem j r h = at_tabulate n (role_to j) none_role r h

  -- ---- one bit more
  module _ (j : ℕ) (h : j < 16 * n) (m : Made (with_parents j)) where
    abbrev r : ℕ
    r = j / 16

    abbrev p : ℕ
    p = j % 16

    abbrev U : Draft
    U = with_parents j

    hr : r < n
    hr = omega arith

    -- other roles are as before
    others : (x : ℕ) → (x ≡ r → ⊥) → some_parents (suc j) x ≡ some_parents j x
    others x d = set_ext _ _ (λ q u. let w = (parents↔ (suc j) x q).0 u in
        (parents↔ j x q).1 (w.0, (w.1.0, omega (arith, w.0, w.1.1, d))))
        (λ q u. let w = (parents↔ j x q).0 u in (parents↔ (suc j) x q).1 (w.0, (w.1.0, omega (arith, w.1.1))))

    same_roles : (So (has (role_in T r).parents p) → ⊥) → some_parents (suc j) r ≡ some_parents j r
    same_roles d = set_ext _ _ (λ q u. let w = (parents↔ (suc j) r q).0 u in
        (parents↔ j r q).1 (w.0, (w.1.0, less q w.0 w.1.0 w.1.1)))
        (λ q u. let w = (parents↔ j r q).0 u in (parents↔ (suc j) r q).1 (w.0, (w.1.0, omega (arith, w.1.1))))
      where
        less : (q : ℕ) → q < 16 → So (has (role_in T r).parents q) → 16 * r + q < suc j → 16 * r + q < j
        less q a b c = elim (dec_lt (16 * r + q) j) [
          | yes l ↦ l
          | no l ↦ absurd (let z : q ≡ p = omega arith in d (subst (λ q. So (has (role_in T r).parents q)) z b))
        ]

    more_roles : So (has (role_in T r).parents p) → with (some_parents j r) p ≡ some_parents (suc j) r
    more_roles b = set_ext _ _ (λ q u. elim ((with↔ (some_parents j r) p q).0 u) [
      | inl v ↦ (let w = (parents↔ j r q).0 v in (parents↔ (suc j) r q).1 (w.0, (w.1.0, omega (arith, w.1.1))))
      | inr e ↦ rw e ((parents↔ (suc j) r p).1 (omega arith, (b, omega arith)))
    ])
        (λ q u. let w = (parents↔ (suc j) r q).0 u in (with↔ (some_parents j r) p q).1 (elim (dec_lt (16 * r + q) j) [
          | yes l ↦ inl ((parents↔ j r q).1 (w.0, (w.1.0, l)))
          | no l ↦ inr (omega (arith, w.0, w.1.1))
        ]))

    bit_made : So (has (role_in T r).parents p) → Made (with_parents (suc j))
    bit_made b = subst Made told (made_next U (inclusion r p) m refl
        (so_and _ _ (ltb_so r (length (tabulate n (role_to j))) (rw size hr)) (ltb_so p (length (tabulate n (role_to j))) (rw size hp)))
        (inclusion_broken U (passed m) r p (rw size hr) (rw size hp)
        ∙ rw (simples_within E size inside fewer bytes count entries, everys_within E size inside fewer bytes count entries) refl))
      where
        size : length (tabulate n (role_to j)) ≡ n
        size = length_tabulate n (role_to j)

        hp : p < n
        hp = (narrow↔ (D.parents r) n).0 (and_r (role_form T r) _ (role_fine r hr)) p b

        E : Description
        E = including (describes U) r p

        inside : ParentsIn E
        inside = still_inside (describes U) (parents_in U (passed m)) r p (rw size hr) (rw size hp)

        fewer : (a s : ℕ) → a < n → So (included E a s) → So (included D a s)
        fewer a s k u = elim ((included↔ (describes U) (parents_in U (passed m)) r p (rw size hr) (rw size hp) a s).0 u) [
          | inl v ↦ ((parents↔ j a s).0 (subst (λ R. So (has R.parents s)) (role_to_lem j a k) v)).1.0
          | inr e ↦ rw (e.0, e.1) b
        ]

        bytes : (t : ℕ) → t < n → E.transitive t ≡ D.transitive t
        bytes t k = ap (λ R. eqb R.transitive 1) (role_to_lem j t k)

        count : E.entries ≡ D.entries
        count = length_tabulate D.entries (fields_in T)

        entries : (e : ℕ) → e < D.entries → E.entry e ≡ D.entry e
        entries e k = ap entry_of_fields (at_tabulate D.entries (fields_in T) (fields_of top) e k)

        changed : RoleIn
        changed = record { transitive = (role_in U r).transitive; parents = with (role_in U r).parents p }

        is_changed : changed ≡ role_to (suc j) r
        is_changed = ap (λ R. record { transitive = R.transitive; parents = with R.parents p }) (role_to_lem j r hr)
            ∙ ap (λ q. record { transitive = (role_in T r).transitive; parents = q }) (more_roles b)

        roles_told : set (tabulate n (role_to j)) r changed ≡ tabulate n (role_to (suc j))
        roles_told = ext_get_or none_role _ _ (length-set (tabulate n (role_to j)) r changed ∙ size ∙ sym (length_tabulate n (role_to (suc j))))
            (λ x k. at x (let z : x < n = omega (arith, length-set (tabulate n (role_to j)) r changed, size) in z) (decide (eqb x r)))
          where
            at : (x : ℕ) → x < n → So (eqb x r) ⊎ (So (eqb x r) → ⊥)
                → get_or (set (tabulate n (role_to j)) r changed) x none_role ≡ get_or (tabulate n (role_to (suc j))) x none_role
            at x k (inl u) = let z = so_eqb x r u in rw z (get_or-set_same (tabulate n (role_to j)) r changed none_role (rw size hr)
                ∙ is_changed ∙ sym (at_tabulate n (role_to (suc j)) none_role r hr))
            at x k (inr u) = let d : x ≡ r → ⊥ = λ e. u ((eqb↔ x r).1 e) in get_or-set_other (tabulate n (role_to j)) r x changed none_role d
                ∙ at_tabulate n (role_to j) none_role x k
                ∙ ap (λ q. record { transitive = (role_in T x).transitive; parents = q }) (sym (others x d))
                ∙ sym (at_tabulate n (role_to (suc j)) none_role x k)

        told : put_in U (inclusion r p) ≡ with_parents (suc j)
        told = ap (λ R. record { roles = R; entries = tabulate D.entries (fields_in T); root = none; rules = [] }) roles_told

    no_bit : (So (has (role_in T r).parents p) → ⊥) → Made (with_parents (suc j))
    no_bit d = subst (λ R. Made (record { roles = R; entries = tabulate D.entries (fields_in T); root = none; rules = [] }))
        (tabulate_cong n (role_to j) (role_to (suc j)) (λ x k.
        ap (λ q. record { transitive = (role_in T x).transitive; parents = q }) (same x (decide (eqb x r))))) m
      where
        same : (x : ℕ) → So (eqb x r) ⊎ (So (eqb x r) → ⊥) → some_parents j x ≡ some_parents (suc j) x
        same x (inl u) = rw (so_eqb x r u) (sym (same_roles d))
        same x (inr u) = sym (others x (λ e. u ((eqb↔ x r).1 e)))

  parents_made : (j : ℕ) → j ≤ 16 * n → Made (with_parents j)
  parents_made zero h = subst (λ R. Made (record { roles = R; entries = tabulate D.entries (fields_in T); root = none; rules = [] }))
      (tabulate_cong n bare (role_to 0) (λ x k. ap (λ q. record { transitive = (role_in T x).transitive; parents = q })
      (set_ext 0 (some_parents 0 x) (λ q u. absurd (no_member q u))
      (λ q u. absurd (let w = (parents↔ 0 x q).0 u in omega (arith, w.1.1))))))
      (entries_made D.entries (omega arith))
  parents_made (suc j) h = let m = parents_made j (omega arith) in
      elim (decide (has (role_in T (j / 16)).parents (j % 16))) [ inl b ↦ bit_made j h m b | inr d ↦ no_bit j h m d ]

  -- ---- all of it
  all_parents : (r : ℕ) → r < n → some_parents (16 * n) r ≡ (role_in T r).parents
  all_parents r h = set_ext _ _ (λ q u. ((parents↔ (16 * n) r q).0 u).1.0)
      (λ q u. let k = (narrow↔ (D.parents r) n).0 (and_r (role_form T r) _ (role_fine r h)) q u in
      (parents↔ (16 * n) r q).1 (omega arith, (u, omega arith)))

  tables_made : Made (record { roles = T.roles; entries = T.entries; root = none; rules = [] })
  tables_made = subst (λ R. Made (record { roles = R; entries = T.entries; root = none; rules = [] }))
      (ext_get_or none_role _ _ (length_tabulate n (role_to (16 * n)))
      (λ x k. let g : x < n = omega (arith, length_tabulate n (role_to (16 * n))) in at_tabulate n (role_to (16 * n)) none_role x g
      ∙ ap (λ q. record { transitive = (role_in T x).transitive; parents = q }) (all_parents x g)))
      (subst (λ E. Made (record { roles = tabulate n (role_to (16 * n)); entries = E; root = none; rules = [] }))
      (ext_get_or (fields_of top) _ _ (length_tabulate D.entries (fields_in T))
      (λ x k. at_tabulate D.entries (fields_in T) (fields_of top) x (omega (arith, length_tabulate D.entries (fields_in T)))))
      (parents_made (16 * n) (omega arith)))

  root_made : (o : Option ℕ) → T.root ≡ o → Made (record { roles = T.roles; entries = T.entries; root = o; rules = [] })
  root_made none q = tables_made
  root_made (some l) q = made_next (record { roles = T.roles; entries = T.entries; root = none; rules = [] })
      (new_root l) tables_made refl refl
      (root_broken (record { roles = T.roles; entries = T.entries; root = none; rules = [] }) (passed tables_made) l ∙ rw fine refl)
    where
      fine : So (ltb (entry_of (literal l)) (length T.entries))
      fine = subst (λ o. So ((is_set o ⇒ ltb (entry_of (literal (root_of o))) (length T.entries)))) q
          (and_l (is_set T.root ⇒ literal_test D D.root) _ P.query)

  abbrev with_rules : ℕ → Draft
  with_rules k = record { roles = T.roles; entries = T.entries; root = T.root; rules = tabulate k (λ i. get_or T.rules i 0) }

  rules_made : (k : ℕ) → k ≤ length T.rules → Made (with_rules k)
  unfolding tabulate
  rules_made zero h = root_made T.root refl
  rules_made (suc k) h = let m = rules_made k (omega arith) in
      rw (tabulate_snoc k (λ i. get_or T.rules i 0)) (made_next (with_rules k) (new_rule (get_or T.rules k 0)) m
      (ltb_so (length (tabulate k (λ i. get_or T.rules i 0))) most_rules (omega (arith, length_tabulate k (λ i. get_or T.rules i 0)))) refl
      (rule_broken (with_rules k) (passed m) (get_or T.rules k 0) ∙ rw (all_elim (length T.rules) _ (rules_kept T P) k h) refl))

  pub reached : Made T
  reached = subst (λ R. Made (record { roles = T.roles; entries = T.entries; root = T.root; rules = R }))
      (ext_get_or 0 _ _ (length_tabulate (length T.rules) (λ i. get_or T.rules i 0))
      (λ x k. at_tabulate (length T.rules) (λ i. get_or T.rules i 0) 0 x
      (omega (arith, length_tabulate (length T.rules) (λ i. get_or T.rules i 0)))))
      (rules_made (length T.rules) (omega arith))

-- within the limits, the drafts that are made are those that break nothing
pub made↔ : (T : Draft) → Few T → Made T ↔ (broken T ≡ none)
made↔ T few = (made_kept T, λ e. reached T ((passes↔ T).0 e) few)
