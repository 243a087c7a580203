-- One inclusion more (02, job 4): the masks of ancestors that it gives.
use Rattle.std.specs.Prelude.{ℕ, ◌≤◌, ◌<◌, ◌≡◌, refl, Bool, true, false, cond, ◌||◌}
use Rattle.std.proofs.Common.{sym, ◌∙◌, arith}
use Rattle.std.specs.Int.Bits.{bit_or}
use Rattle.logic.specs.Sets.{set_of}
use Rattle.logic.specs.SetLaws.{has_set_of, set_of_cong, or_set_of}
use Rattle.description.specs.Descriptions.{Description}
use Rattle.description.specs.Roles.{ancestor}
use Rattle.roles.specs.Ancestors.{joined}
use Rattle.editing.specs.Inclusions.{ParentsIn, including, anc_including}

module _ (D : Description) (inside : ParentsIn D) (r p : ℕ) (hr : r < D.roles) (hp : p < D.roles) where
  abbrev E : Description
  E = including D r p

  -- as masks: those that hold r take in the ancestors of p
  pub masks_including : (x : ℕ) → D.roles ≤ 16 → x < D.roles
      → set_of 16 (ancestor E x) ≡ joined (set_of 16 (ancestor D x)) (set_of 16 (ancestor D p)) r
  masks_including x few h = rw (has_set_of 16 (ancestor D x) r (omega arith)) (go (ancestor D x r) refl)
    where
      go : (b : Bool) → ancestor D x r ≡ b → set_of 16 (ancestor E x)
          ≡ cond b (bit_or (set_of 16 (ancestor D x)) (set_of 16 (ancestor D p))) (set_of 16 (ancestor D x))
      go true e = set_of_cong 16 _ _ (λ y _. anc_including D inside r p hr hp x y h ∙ rw e refl) ∙ sym (or_set_of 16 (ancestor D x) (ancestor D p))
      go false e = set_of_cong 16 _ _ (λ y _. anc_including D inside r p hr hp x y h ∙ rw e (last (ancestor D x y)))
        where
          last : (b : Bool) → (b || false) ≡ b
          last true = refl
          last false = refl
