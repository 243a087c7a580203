-- One inclusion more (02, job 4): which ancestors it gives, and which roles it leaves simple.
use Rattle.std.specs.Prelude.{ℕ, ◌<◌, ◌≡◌, refl, ◌↔◌, ◌⊎◌, Bool, true, false, cond, ◌&&◌, ◌||◌, eqb}
use Rattle.std.proofs.Common.{sym, ◌∙◌, subst, inl, inr, arith}
use Rattle.std.proofs.lemmas.Bool.{false≢true}
use Rattle.logic.specs.Tests.{So, so_and, and_l, and_r, or_l, or_r, or_cases, so_eqb, eqb↔, same_test}
use Rattle.logic.specs.Sets.{has, with}
use Rattle.logic.specs.SetLaws.{with↔}
use Rattle.description.specs.Descriptions.{Description, included}
use Rattle.description.specs.Roles.{ancestor, anc_refl, parent_anc}
use Rattle.description.proofs.Roles.{anc_ind, anc_trans}

-- every parent bit is of the table
abbrev pub ParentsIn : Description → Type 0
ParentsIn D = (a : ℕ) → a < D.roles → (s : ℕ) → So (included D a s) → s < D.roles

-- role r is included in role p too
abbrev pub including : Description → ℕ → ℕ → Description
including D r p = record {
  roles = D.roles;
  transitive = D.transitive;
  parents = λ x. cond (eqb x r) (with (D.parents x) p) (D.parents x);
  entries = D.entries;
  entry = D.entry;
  root = D.root;
  rules = D.rules;
  rule = D.rule;
  disjoints = D.disjoints;
  disjoint = D.disjoint;
  fourth = D.fourth;
}

module _ (D : Description) (inside : ParentsIn D) (r p : ℕ) (hr : r < D.roles) (hp : p < D.roles) where
  abbrev E : Description
  E = including D r p

  pub included↔ : (x y : ℕ) → So (included E x y) ↔ (So (included D x y) ⊎ ((x ≡ r) × (y ≡ p)))
  included↔ x y = go (eqb x r) refl
    where
      go : (b : Bool) → eqb x r ≡ b → So (has (cond b (with (D.parents x) p) (D.parents x)) y)
          ↔ (So (has (D.parents x) y) ⊎ ((x ≡ r) × (y ≡ p)))
      go true e = (
        λ u. elim ((with↔ (D.parents x) p y).0 u) [ inl v ↦ inl v | inr q ↦ inr (so_eqb x r e, q) ],
        λ u. (with↔ (D.parents x) p y).1 (elim u [ inl v ↦ inl v | inr q ↦ inr q.1 ]),
      )
      go false e = (λ u. inl u, λ u. elim u [ inl v ↦ v | inr q ↦ absurd (false≢true (sym e ∙ (eqb↔ x r).1 q.0)) ])

  pub still_inside : ParentsIn E
  still_inside a h s u = elim ((included↔ a s).0 u) [ inl v ↦ inside a h s v | inr q ↦ omega (arith, q.1) ]

  -- what was an ancestor still is one
  pub anc_still : (x y : ℕ) → x < D.roles → So (ancestor D x y) → So (ancestor E x y)
  anc_still x y h u = (anc_ind D inside (λ z. So (ancestor E x z))
      (λ a b ha v w. anc_trans E still_inside x a b h w (parent_anc E a b ((included↔ a b).1 (inl v)))) x y h u (anc_refl E x)).1

  -- what is new goes by the inclusion, once
  pub anc_including : (x y : ℕ) → x < D.roles → ancestor E x y ≡ (ancestor D x y || (ancestor D x r && ancestor D p y))
  anc_including x y h = same_test _ _ (λ u. (anc_ind E still_inside (λ z. So (P z)) step x y h u (or_l (ancestor D x x) _ (anc_refl D x))).1)
      (λ u. elim (or_cases (ancestor D x y) _ u) [
        | inl v ↦ anc_still x y h v
        | inr v ↦ anc_trans E still_inside x r y h (anc_still x r h (and_l (ancestor D x r) _ v))
            (anc_trans E still_inside r p y hr (parent_anc E r p ((included↔ r p).1 (inr (refl, refl))))
            (anc_still p y hp (and_r (ancestor D x r) _ v)))
      ])
    where
      P : ℕ → Bool
      P z = ancestor D x z || (ancestor D x r && ancestor D p z)

      along : (a b : ℕ) → a < D.roles → So (included D a b) → So (P a) → So (P b)
      along a b ha v u = elim (or_cases (ancestor D x a) _ u) [
        | inl w ↦ or_l (ancestor D x b) _ (anc_trans D inside x a b h w (parent_anc D a b v))
        | inr w ↦ or_r (ancestor D x b) _ (so_and (ancestor D x r) _ (and_l (ancestor D x r) _ w)
            (anc_trans D inside p a b hp (and_r (ancestor D x r) _ w) (parent_anc D a b v)))
      ]

      at_r : So (P r) → So (ancestor D x r)
      at_r u = elim (or_cases (ancestor D x r) _ u) [ inl w ↦ w | inr w ↦ and_l (ancestor D x r) _ w ]

      step : (a b : ℕ) → a < D.roles → So (included E a b) → So (P a) → So (P b)
      step a b ha v u = elim ((included↔ a b).0 v) [
        | inl w ↦ along a b ha w u
        | inr q ↦ rw q.1 (or_r (ancestor D x p) _ (so_and (ancestor D x r) _ (at_r (subst (λ z. So (P z)) q.0 u)) (anc_refl D p)))
      ]
