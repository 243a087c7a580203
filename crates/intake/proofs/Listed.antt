-- A test of all bytes of a list is the test at each place.
use Rattle.std.specs.Prelude.{ℕ, zero, suc, ◌<◌, ◌≡◌, Bool, ◌&&◌, List, [], ◌∷◌, length, get_or}
use Rattle.std.specs.List.{list_all}
use Rattle.std.proofs.Common.{refl, ◌∙◌, ap, arith}
use Rattle.logic.specs.Tests.{So, so_and, and_l, and_r, same_test}
use Rattle.logic.specs.Bounded.{all_below, all_intro, all_elim}

module _ (p : ℕ → Bool) where
  first : (x : ℕ) (xs : List ℕ) → So (p x) → So (all_below (length xs) (λ i. p (get_or xs i 0))) → (i : ℕ) → i < suc (length xs)
      → So (p (get_or (x ∷ xs) i 0))
  first x xs h k zero l = h
  first x xs h k (suc i) l = all_elim (length xs) _ k i (omega arith)

  pub all_bytes : (xs : List ℕ) → list_all p xs ≡ all_below (length xs) (λ i. p (get_or xs i 0))
  unfolding all_below
  all_bytes [] = refl
  all_bytes (x ∷ xs) = ap (λ b. p x && b) (all_bytes xs) ∙ same_test _ _
      (λ h. all_intro (suc (length xs)) _ (first x xs (and_l _ _ h) (and_r _ _ h)))
      (λ h. so_and _ _ (all_elim (suc (length xs)) _ h 0 (omega arith))
      (all_intro (length xs) _ (λ i l. all_elim (suc (length xs)) _ h (suc i) (omega arith))))
