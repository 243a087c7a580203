-- Laws of sets of literals: the set of a list.
use Rattle.std.specs.Prelude.{ℕ, zero, suc, ◌≡◌, ◌↔◌, List, [], ◌∷◌}
use Rattle.std.proofs.Common.{sym, inl, inr}
use mathlib.Core.List.Memᴰ
use Rattle.logic.specs.Tests.{So, same_test}
use Rattle.logic.specs.Lists.{◌∈◌, each, each↔}
use Rattle.logic.specs.Sets.{within}
use Rattle.description.specs.Literals.{Literal, members, literal_set, within_members↔, no_literal, adding↔}

pub literal_set↔ : (W : List Literal) (l : Literal) → So (members (literal_set W) l) ↔ (l ∈ W)
unfolding literal_set
literal_set↔ [] l = (λ h. absurd (no_literal l h), λ m. elim m [ ])
literal_set↔ (x ∷ W) l = (
  λ h. elim ((adding↔ (literal_set W) x l).0 h) [ inl u ↦ Memᴰ.tail ((literal_set↔ W l).0 u) | inr e ↦ Memᴰ.head (sym e) ],
  λ h. (adding↔ (literal_set W) x l).1 (elim (Memᴰ.cases_cons h) [ inl e ↦ inr (sym e) | inr t ↦ inl ((literal_set↔ W l).1 t) ]),
)

-- a label has every literal of a list exactly if their set lies within it
pub within_set : (W : List Literal) (N : ℕ) → within (literal_set W) N ≡ each W (members N)
within_set W N = same_test _ _
    (λ h. (each↔ W (members N)).1 (λ l m. (within_members↔ (literal_set W) N).0 h l ((literal_set↔ W l).1 m)))
    (λ h. (within_members↔ (literal_set W) N).1 (λ l u. (each↔ W (members N)).0 h l ((literal_set↔ W l).0 u)))
