-- Laws of ancestors: what goes up from role to role.
use Rattle.std.specs.Prelude.{ℕ, zero, suc, ◌<◌, eqb}
use Rattle.std.proofs.Math.Logic.{inl, inr}
use native.Mathlib.Omega.{arith}
use Rattle.logic.specs.Tests.{So, or_r, or_cases, so_eqb}
use Rattle.logic.specs.Closure.{closure_ind, closure_trans}
use Rattle.description.specs.Descriptions.{Description, included}
use Rattle.description.specs.Roles.{ancestor}

-- where every parent bit is in the table
module _ (D : Description) (inside : (r : ℕ) → r < D.roles → (s : ℕ) → So (included D r s) → s < D.roles) where
  -- what a role has and every parent takes over, every ancestor has
  pub anc_ind : (P : ℕ → Type 0) → ((r s : ℕ) → r < D.roles → So (included D r s) → P r → P s)
      → (r s : ℕ) → r < D.roles → So (ancestor D r s) → P r → (s < D.roles) × P s
  unfolding ancestor
  anc_ind P step r s hr e p = elim (or_cases (eqb r s) _ e) [
    | inl q ↦ let z = so_eqb r s q in (omega arith, rw z at p)
    | inr q ↦ closure_ind D.roles (included D) D.roles (omega arith) (λ a b. a < D.roles → P a → (b < D.roles) × P b)
        (λ a b h ha pa. (inside a ha b h, step a b ha h pa)) (λ a b c hb f g ha pa. let u = f ha pa in g u.0 u.1) r s q hr p
  ]

  pub anc_in : (r s : ℕ) → r < D.roles → So (ancestor D r s) → s < D.roles
  anc_in r s hr e = (anc_ind (λ _. Unit {0}) (λ _ _ _ _ _. tt) r s hr e tt).0

  pub anc_trans : (r s t : ℕ) → r < D.roles → So (ancestor D r s) → So (ancestor D s t) → So (ancestor D r t)
  unfolding ancestor
  anc_trans r s t hr p q = elim (or_cases (eqb r s) _ p) [
    | inl a ↦ rw (so_eqb r s a) q
    | inr a ↦ elim (or_cases (eqb s t) _ q) [
      | inl b ↦ rw (so_eqb s t b) at p
      | inr b ↦ or_r (eqb r t) _ (closure_trans D.roles (included D) r s t (anc_in r s hr p) a b)
    ]
  ]
