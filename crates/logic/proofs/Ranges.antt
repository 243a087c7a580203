-- Iterators over the numbers below a bound: what `all` and `any` answer, as the tests of specs/Bounded.
use Rattle.std.specs.Prelude.{ℕ, zero, suc, ◌+◌, ◌-◌, ◌≤◌, ◌<◌, ◌≡◌, Bool, true, false, ◌&&◌, ◌||◌, Option, List, [], ◌∷◌}
use Rattle.std.specs.List.{list_all, list_any, range_with_len}
use Rattle.std.specs.Fn.{Called}
use Rattle.std.specs.Iterator.{ChecksAll, ChecksAny}
use Rattle.std.proofs.Common.{refl, sym, ◌∙◌, ap, subst, inl, inr, arith}
use Rattle.std.proofs.lemmas.Iterator.{YieldsList}
use Rattle.std.proofs.lemmas.Iterator.Search.{all_from_yields_List, any_from_yields_List}
use Rattle.logic.specs.Tests.{So, so_and, and_l, and_r, or_l, or_r, or_cases, same_test}
use Rattle.logic.specs.Bounded.{all_below, any_below, all_cong, any_cong, all_intro, all_elim, any_intro, any_elim}
use denote.Param.Members.{Mut}

module _ (p : ℕ → Bool) where
  first : (a i n : ℕ) → So (p a) → So (all_below n (λ j. p (a + 1 + j))) → i < suc n → So (p (a + i))
  first a zero n h k l = subst (λ m. So (p m)) {x = a} {y = a + 0} (omega arith) h
  first a (suc i) n h k l = subst (λ m. So (p m)) {x = a + 1 + i} {y = a + suc i} (omega arith) (all_elim n _ k i (omega arith))

  -- a test of all of a list of numbers that rise
  pub all_listed : (a n : ℕ) → list_all p (range_with_len a n) ≡ all_below n (λ i. p (a + i))
  unfolding all_below
  all_listed a zero = refl
  all_listed a (suc n) = rw (all_listed (a + 1) n) (same_test _ _
      (λ h. all_intro (suc n) _ (λ i l. first a i n (and_l _ _ h) (and_r _ _ h) l))
      (λ h. so_and _ _
      (subst (λ m. So (p m)) {x = a + 0} {y = a} (omega arith) (all_elim (suc n) _ h 0 (omega arith)))
      (all_intro n _ (λ i l. subst (λ m. So (p m)) {x = a + suc i} {y = a + 1 + i} (omega arith) (all_elim (suc n) _ h (suc i) (omega arith))))))

  found : (a n i : ℕ) → i < suc n → So (p (a + i)) → So (p a || any_below n (λ j. p (a + 1 + j)))
  found a n zero l h = or_l _ _ (subst (λ m. So (p m)) {x = a + 0} {y = a} (omega arith) h)
  found a n (suc i) l h = or_r _ _ (any_intro n _ i (omega arith) (subst (λ m. So (p m)) {x = a + suc i} {y = a + 1 + i} (omega arith) h))

  -- of some of it
  pub any_listed : (a n : ℕ) → list_any p (range_with_len a n) ≡ any_below n (λ i. p (a + i))
  unfolding any_below
  any_listed a zero = refl
  any_listed a (suc n) = rw (any_listed (a + 1) n) (same_test _ _
      (λ h. elim (or_cases _ _ h) [
        | inl k ↦ any_intro (suc n) _ 0 (omega arith) (subst (λ m. So (p m)) {x = a} {y = a + 0} (omega arith) k)
        | inr k ↦ let w = any_elim n _ k in any_intro (suc n) _ (suc w.0) (omega (arith, w.1)) (subst (λ m. So (p m)) {x = a + 1 + w.0} {y = a + suc w.0} (omega arith) w.2)
      ])
      (λ h. let w = any_elim (suc n) _ h in found a n w.0 w.1 w.2))

module _ {S F : Type 0} {steps : S → Option ℕ → S → Type 0} {g : Mut F (ℕ × Unit {0}) Bool} {s : S} (test : ℕ → Bool) (n : ℕ) (u : S) (f : F) (r : Bool) where
  pub all_range : ChecksAll steps g s f r u → YieldsList steps (λ x. x) s (range_with_len 0 (n - 0))
      → ((x : ℕ) (b : Bool) (q : F) → Called g f (x, tt) b q → (q ≡ f) × (b ≡ test x)) → r ≡ all_below n test
  all_range h y k = all_from_yields_List test u f r h y k ∙ all_listed test 0 _ ∙ ap (λ m. all_below m (λ i. test (0 + i))) {x = n - 0} {y = n} (omega arith) ∙ all_cong n _ _ (λ i l. ap test {x = 0 + i} {y = i} (omega arith))

  pub any_range : ChecksAny steps g s f r u → YieldsList steps (λ x. x) s (range_with_len 0 (n - 0))
      → ((x : ℕ) (b : Bool) (q : F) → Called g f (x, tt) b q → (q ≡ f) × (b ≡ test x)) → r ≡ any_below n test
  any_range h y k = any_from_yields_List test u f r h y k ∙ any_listed test 0 _ ∙ ap (λ m. any_below m (λ i. test (0 + i))) {x = n - 0} {y = n} (omega arith) ∙ any_cong n _ _ (λ i l. ap test {x = 0 + i} {y = i} (omega arith))
