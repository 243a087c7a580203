-- The direct reading of an interpretation (01, "The written line"): HOLDS exactly if it is a model that satisfies what is wanted.
use Rattle.std.specs.Prelude.{ℕ, zero, suc, ◌≤◌, ◌<◌, ◌≡◌, refl, ◌↔◌, Bool, ◌&&◌, List, leb}
use Rattle.logic.specs.Tests.{So, ◌⇒◌}
use Rattle.logic.specs.Bounded.{all_below, any_below}
use Rattle.logic.specs.Lists.{each, listed}
use Rattle.description.specs.Literals.{Literal}
use Rattle.description.specs.Descriptions.{Description, included, compatible, compatible↔}
use Rattle.interpretation.specs.Meaning.{Interpretation, holds}
use Rattle.interpretation.specs.Models.{Model, Satisfies}

module _ (D : Description) (I : Interpretation) where
  unfoldable pub includes : Bool
  includes = all_below D.roles (λ r. all_below D.roles (λ s. included D r s
      ⇒ all_below I.size (λ x. all_below I.size (λ y. I.role r x y ⇒ I.role s x y))))

  unfoldable pub composes : Bool
  composes = all_below D.roles (λ t. D.transitive t
      ⇒ all_below I.size (λ x. all_below I.size (λ y. I.role t x y ⇒ all_below I.size (λ z. I.role t y z ⇒ I.role t x z))))

  unfoldable pub separates : Bool
  separates = all_below I.size (λ x. all_below I.size (λ y. compatible D (λ r. I.role r x y)))

  unfoldable pub follows : Bool
  follows = all_below D.rules (λ i. all_below I.size (λ x. holds D I (D.rule i) x))

  unfoldable pub satisfies : List Literal → Bool
  satisfies W = any_below I.size (λ x. each W (λ l. holds D I l x))

  abbrev pub reads : List Literal → Bool
  reads W = leb 1 I.size && (includes && (composes && (separates && (follows && satisfies W))))

  pub reads↔ : (W : List Literal) → So (reads W) ↔ (Model D I × Satisfies D W I)
  unfolding includes composes separates follows satisfies
  reads↔ W = simp (listed, compatible↔) (
    λ t. (record { nonempty = t.0; inclusion = t.1.0; transitivity = t.1.1.0; disjointness = t.1.1.1.0; rules = t.1.1.1.1.0 }, t.1.1.1.1.1),
    λ h. (h.0.nonempty, (h.0.inclusion, (h.0.transitivity, (h.0.disjointness, (h.0.rules, h.1))))),
  )
