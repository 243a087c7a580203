-- Tests over the numbers below a bound.
use Rattle.std.specs.Prelude.{ℕ, zero, suc, ◌+◌, ◌≤◌, ◌<◌, ◌≡◌, ◌↔◌, ◌⊎◌, Bool, true, false, cond, not, ◌&&◌, ◌||◌}
use Rattle.std.proofs.Math.Path.{refl}
use Rattle.std.proofs.Common.{sym, ◌∙◌, inl, inr, arith}
use Rattle.std.proofs.lemmas.Bool.{false≢true}
use Rattle.std.proofs.Math.Decide.{dec_lt}
use Rattle.std.proofs.Math.Numerals.{add-one}
use Rattle.logic.specs.Tests.{So, decide, so_and, and_l, and_r, or_l, or_r, or_cases, so_not, so_false, same_test, reading}

unfoldable pub all_below : ℕ → (ℕ → Bool) → Bool
all_below zero p = true
all_below (suc n) p = all_below n p && p n

unfoldable pub any_below : ℕ → (ℕ → Bool) → Bool
any_below zero p = false
any_below (suc n) p = any_below n p || p n

pub below_cases : (i n : ℕ) → i < suc n → (i < n) ⊎ (i ≡ n)
below_cases i n h = go (dec_lt i n)
  where
    go : Dec (i < n) → (i < n) ⊎ (i ≡ n)
    go (yes k) = inl k
    go (no k) = inr (omega arith)

-- what holds at every c below n, and at n, holds at every c below n + 1
pub up_to_lem {ℓ} : (P : ℕ → Type ℓ) (n : ℕ) → ((c : ℕ) → c < n → P c) → P n → (c : ℕ) → c < suc n → P c
up_to_lem P n below here c l = elim (below_cases c n l) [ inl k ↦ below c k | inr k ↦ rw k here ]

pub all↔ : (n : ℕ) (p : ℕ → Bool) → So (all_below n p) ↔ ((i : ℕ) → i < n → So (p i))
unfolding all_below
all↔ zero p = (λ e i h. absurd (omega arith), λ h. refl)
all↔ (suc n) p = (
  λ e. up_to_lem (λ i. So (p i)) n ((all↔ n p).0 (and_l (all_below n p) (p n) e)) (and_r (all_below n p) (p n) e),
  λ h. so_and (all_below n p) (p n) ((all↔ n p).1 (λ i k. h i (omega arith))) (h n (omega arith)),
)

pub any↔ : (n : ℕ) (p : ℕ → Bool) → So (any_below n p) ↔ ((i : ℕ) × (i < n) × So (p i))
unfolding any_below
any↔ zero p = (λ e. absurd (false≢true e), λ w. absurd (omega (arith, w.1)))
any↔ (suc n) p = (
  λ e. elim (or_cases (any_below n p) (p n) e) [
    | inl k ↦ let r = (any↔ n p).0 k in (r.0, omega (arith, r.1), r.2)
    | inr k ↦ (n, omega arith, k)
  ],
  λ w. elim (below_cases w.0 n w.1) [
    | inl k ↦ or_l (any_below n p) (p n) ((any↔ n p).1 (w.0, k, w.2))
    | inr k ↦ or_r (any_below n p) (p n) (rw k at w.2)
  ],
)

pub all_elim : (n : ℕ) (p : ℕ → Bool) → So (all_below n p) → (i : ℕ) → i < n → So (p i)
all_elim n p = (all↔ n p).0

pub all_intro : (n : ℕ) (p : ℕ → Bool) → ((i : ℕ) → i < n → So (p i)) → So (all_below n p)
all_intro n p = (all↔ n p).1

pub any_elim : (n : ℕ) (p : ℕ → Bool) → So (any_below n p) → (i : ℕ) × (i < n) × So (p i)
any_elim n p = (any↔ n p).0

pub any_intro : (n : ℕ) (p : ℕ → Bool) (i : ℕ) → i < n → So (p i) → So (any_below n p)
any_intro n p i h e = (any↔ n p).1 (i, h, e)

-- tests that agree below n agree on all and on some
pub all_cong : (n : ℕ) (p q : ℕ → Bool) → ((i : ℕ) → i < n → p i ≡ q i) → all_below n p ≡ all_below n q
all_cong n p q h = same_test _ _ (λ a. all_intro n q (λ i l. sym (h i l) ∙ all_elim n p a i l)) (λ a. all_intro n p (λ i l. h i l ∙ all_elim n q a i l))

pub any_cong : (n : ℕ) (p q : ℕ → Bool) → ((i : ℕ) → i < n → p i ≡ q i) → any_below n p ≡ any_below n q
any_cong n p q h = same_test _ _
    (λ a. let w = any_elim n p a in any_intro n q w.0 w.1 (sym (h w.0 w.1) ∙ w.2))
    (λ a. let w = any_elim n q a in any_intro n p w.0 w.1 (h w.0 w.1 ∙ w.2))

-- a test that does not pass everywhere fails somewhere
pub all_not : (n : ℕ) (p : ℕ → Bool) → (So (all_below n p) → ⊥) → (i : ℕ) × (i < n) × So (not (p i))
unfolding all_below
all_not zero p h = absurd (h refl)
all_not (suc n) p h = elim (decide (p n)) [
  | inl u ↦ let r = all_not n p (λ a. h (so_and (all_below n p) (p n) a u)) in (r.0, omega (arith, r.1), r.2)
  | inr u ↦ (n, omega arith, so_not _ u)
]

-- ---- for loops that go up and stop early: what is known after the first i
pub all_none : (p : ℕ → Bool) → all_below 0 p ≡ true
unfolding all_below
all_none p = refl

pub any_none : (p : ℕ → Bool) → any_below 0 p ≡ false
unfolding any_below
any_none p = refl

module _ (p : ℕ → Bool) (i : ℕ) where
  pub all_stop : (n : ℕ) → i < n → p i ≡ false → all_below n p ≡ false
  all_stop n h e = so_false (all_below n p) (λ a. false≢true (sym e ∙ all_elim n p a i h))

  pub all_more : all_below i p ≡ true → p i ≡ true → all_below (i + 1) p ≡ true
  unfolding all_below
  all_more a e = rw add-one (so_and (all_below i p) (p i) a e)

  pub all_done : (n : ℕ) → i ≤ n → n ≤ i → all_below i p ≡ true → all_below n p ≡ true
  all_done n h k a = let e : i ≡ n = omega arith in rw e at a

  pub any_stop : (n : ℕ) → i < n → p i ≡ true → any_below n p ≡ true
  any_stop n h e = any_intro n p i h e

  pub any_more : any_below i p ≡ false → p i ≡ false → any_below (i + 1) p ≡ false
  unfolding any_below
  any_more a e = rw (add-one, a, e) refl

  pub any_done : (n : ℕ) → i ≤ n → n ≤ i → any_below i p ≡ false → any_below n p ≡ false
  any_done n h k a = let e : i ≡ n = omega arith in rw e at a

-- the last number below n that passes, or 0
unfoldable pub find : ℕ → (ℕ → Bool) → ℕ
find zero p = 0
find (suc n) p = cond (p n) n (find n p)

pub find_ok : (n : ℕ) (p : ℕ → Bool) → So (any_below n p) → (find n p < n) × So (p (find n p))
unfolding find any_below
find_ok zero p e = absurd (false≢true e)
find_ok (suc n) p e = elim (decide (p n)) [
  | inl u ↦ rw u (omega arith, u)
  | inr u ↦ rw (so_false _ u)
      (let r = find_ok n p (elim (or_cases (any_below n p) (p n) e) [ inl v ↦ v | inr v ↦ absurd (u v) ]) in (omega (arith, r.0), r.1))
]

pub ruleset below = (reading, all↔, any↔)
