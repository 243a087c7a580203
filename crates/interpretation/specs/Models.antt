-- Models of a description (01, the opening), and what a true entry says of an element and its fillers.
use Rattle.std.specs.Prelude.{ℕ, zero, suc, ◌≤◌, ◌<◌, ◌≡◌, ◌↔◌, ◌&&◌, List}
use Rattle.std.proofs.Common.{subst, inl, inr}
use Rattle.logic.specs.Tests.{So, and↔, imp↔, leb↔}
use Rattle.logic.specs.Bounded.{all↔}
use Rattle.logic.specs.Lists.{◌∈◌}
use Rattle.logic.specs.Sums.{count_below}
use Rattle.description.specs.Literals.{Literal, Label, plus, plus↔}
use Rattle.description.specs.Descriptions.{top, both, every, at_least, Description, included, Compatible}
use Rattle.description.specs.Roles.{ancestor}
use Rattle.description.proofs.Roles.{anc_ind}
use Rattle.description.specs.Acceptance.{Accepted, first_top}
use Rattle.interpretation.specs.Meaning.{Interpretation, meaning, truth, truth_eq, holds}

-- a model of the description (01: a line of it): at least one element, inclusions, transitive roles, disjoint roles, every rule everywhere
pub record Model (D : Description) (I : Interpretation) : Type 0 where
  pub nonempty : 1 ≤ I.size
  pub inclusion : (r : ℕ) → r < D.roles → (s : ℕ) → s < D.roles → So (included D r s)
      → (x : ℕ) → x < I.size → (y : ℕ) → y < I.size → So (I.role r x y) → So (I.role s x y)
  pub transitivity : (t : ℕ) → t < D.roles → So (D.transitive t)
      → (x : ℕ) → x < I.size → (y : ℕ) → y < I.size → So (I.role t x y) → (z : ℕ) → z < I.size → So (I.role t y z) → So (I.role t x z)
  pub disjointness : (x : ℕ) → x < I.size → (y : ℕ) → y < I.size → Compatible D (λ r. I.role r x y)
  pub rules : (i : ℕ) → i < D.rules → (x : ℕ) → x < I.size → So (holds D I (D.rule i) x)

-- some element has every wanted literal; with the root alone wanted, the interpretation has the class
abbrev pub Satisfies : Description → List Literal → Interpretation → Type 0
Satisfies D W I = (x : ℕ) × (x < I.size) × ((l : Literal) → l ∈ W → So (holds D I l x))

-- every literal of the label is true at x
abbrev pub AllTrue : Description → Interpretation → Label → ℕ → Type 0
AllTrue D I L x = (l : Literal) → So (L l) → So (holds D I l x)

pub plus_true : (D : Description) (I : Interpretation) (L : Label) (l : Literal) (x : ℕ) → AllTrue D I L x → So (holds D I l x) → AllTrue D I (plus L l) x
plus_true D I L l x a h m q = elim ((plus↔ L l m).0 q) [ inl u ↦ a m u | inr e ↦ subst (λ k. So (holds D I k x)) e h ]

-- a role's pairs are pairs of its ancestors
pub role_up : (D : Description) → Accepted D → (I : Interpretation) → Model D I → (r s x y : ℕ) → r < D.roles → So (ancestor D r s)
    → x < I.size → y < I.size → So (I.role r x y) → So (I.role s x y)
role_up D A I M r s x y hr e hx hy p = (anc_ind D A.parents_in (λ u. So (I.role u x y))
    (λ a b ha h q. M.inclusion a ha b (A.parents_in a ha b h) h x hx y hy q) r s hr e p).1

-- ---- entries by kind
module _ (D : Description) (A : Accepted D) (I : Interpretation) where
  pub top_true : (x : ℕ) → So (truth D I 0 x)
  unfolding meaning
  top_true x = truth_eq D A I 0 x top A.some_entry (first_top D A)

  pub both_true : (e x : ℕ) (a b : Literal) → e < D.entries → D.entry e ≡ both a b → So (truth D I e x) ↔ (So (holds D I a x) × So (holds D I b x))
  unfolding meaning
  both_true e x a b h q = rw (truth_eq D A I e x (both a b) h q) (and↔ (holds D I a x) (holds D I b x))

  pub every_true : (e x r : ℕ) (l : Literal) → e < D.entries → D.entry e ≡ every r l
      → So (truth D I e x) ↔ ((y : ℕ) → y < I.size → So (I.role r x y) → So (holds D I l y))
  unfolding meaning
  every_true e x r l h q = rw (truth_eq D A I e x (every r l) h q) (simp (all↔, imp↔) (λ f. f, λ f. f))

  pub least_true : (e x r : ℕ) (l : Literal) (n : ℕ) → e < D.entries → D.entry e ≡ at_least r l n
      → So (truth D I e x) ↔ (n ≤ count_below I.size (λ y. I.role r x y && holds D I l y))
  unfolding meaning
  least_true e x r l n h q = rw (truth_eq D A I e x (at_least r l n) h q) (leb↔ n _)
