-- Ancestors and simple roles (01, "The description", Roles; FORMAT 2).
use Rattle.std.specs.Prelude.{ℕ, Bool, not, ◌&&◌, ◌||◌, eqb}
use Rattle.logic.specs.Tests.{So, or_l, or_r, eqb_so}
use Rattle.logic.specs.Bounded.{all_below}
use Rattle.logic.specs.Closure.{closure, closure_base}
use Rattle.description.specs.Descriptions.{Description, included}

-- s is an ancestor of r: r ⊑* s, by no inclusion or by several
unfoldable pub ancestor : Description → ℕ → ℕ → Bool
ancestor D r s = eqb r s || closure D.roles (included D) r s

-- s is simple: it lies above no transitive role
unfoldable pub simple : Description → ℕ → Bool
simple D s = all_below D.roles (λ t. not (D.transitive t && ancestor D t s))

pub anc_refl : (D : Description) (r : ℕ) → So (ancestor D r r)
unfolding ancestor
anc_refl D r = or_l _ _ (eqb_so r)

pub parent_anc : (D : Description) (r s : ℕ) → So (included D r s) → So (ancestor D r s)
unfolding ancestor
parent_anc D r s p = or_r (eqb r s) _ (closure_base D.roles (included D) r s p)
