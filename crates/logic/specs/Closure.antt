-- The closure of a relation, as an executable test: Warshall's, with stops below k allowed.
use Rattle.std.specs.Prelude.{ℕ, zero, suc, ◌≤◌, ◌<◌, ◌≡◌, refl, ◌↔◌, ◌⊎◌, Bool, ◌&&◌, ◌||◌, eqb}
use Rattle.std.proofs.Common.{ap₂, inl, inr, arith}
use Rattle.logic.specs.Tests.{So, so_and, and_l, and_r, or_l, or_r, or_cases, so_eqb, same_test}
use Rattle.logic.specs.Bounded.{below_cases}

unfoldable pub closure : ℕ → (ℕ → ℕ → Bool) → ℕ → ℕ → Bool
closure zero R x y = R x y
closure (suc k) R x y = closure k R x y || (closure k R x k && closure k R k y)

pub closure_base : (k : ℕ) (R : ℕ → ℕ → Bool) (x y : ℕ) → So (R x y) → So (closure k R x y)
unfolding closure
closure_base zero R x y e = e
closure_base (suc k) R x y e = or_l _ _ (closure_base k R x y e)

-- what one step gives, and what goes on from stop to stop, the closure gives
pub closure_ind : (k : ℕ) (R : ℕ → ℕ → Bool) (n : ℕ) → k ≤ n → (P : ℕ → ℕ → Type 0)
    → ((x y : ℕ) → So (R x y) → P x y) → ((x y z : ℕ) → y < n → P x y → P y z → P x z)
    → (x y : ℕ) → So (closure k R x y) → P x y
unfolding closure
closure_ind zero R n b P one more x y e = one x y e
closure_ind (suc k) R n b P one more x y e = go (closure_ind k R n (omega arith) P one more) (or_cases (closure k R x y) _ e)
  where
    go : ((x y : ℕ) → So (closure k R x y) → P x y) → So (closure k R x y) ⊎ So (closure k R x k && closure k R k y) → P x y
    go ih (inl r) = ih x y r
    go ih (inr r) = more x k y (omega arith) (ih x k (and_l _ _ r)) (ih k y (and_r (closure k R x k) _ r))

pub closure_trans : (k : ℕ) (R : ℕ → ℕ → Bool) (x u y : ℕ) → u < k → So (closure k R x u) → So (closure k R u y) → So (closure k R x y)
unfolding closure
closure_trans zero R x u y h p q = absurd (omega arith)
closure_trans (suc k) R x u y h p q =
    go (closure_trans k R) (below_cases u k h) (or_cases (closure k R x u) _ p) (or_cases (closure k R u y) _ q)
  where
    C : ℕ → ℕ → Bool
    C = closure k R

    via : So (C x k) → So (C k y) → So (C x y || (C x k && C k y))
    via a b = or_r (C x y) _ (so_and (C x k) (C k y) a b)

    to_k : u ≡ k → So (C x u) ⊎ So (C x k && C k u) → So (C x k)
    to_k e (inl a) = rw e at a
    to_k e (inr a) = and_l _ _ a

    from_k : u ≡ k → So (C u y) ⊎ So (C u k && C k y) → So (C k y)
    from_k e (inl a) = rw e at a
    from_k e (inr a) = and_r (C u k) _ a

    go : ((x u y : ℕ) → u < k → So (C x u) → So (C u y) → So (C x y)) → (u < k) ⊎ (u ≡ k)
        → So (C x u) ⊎ So (C x k && C k u) → So (C u y) ⊎ So (C u k && C k y) → So (C x y || (C x k && C k y))
    go ih (inr e) a b = via (to_k e a) (from_k e b)
    go ih (inl l) (inl a) (inl b) = or_l (C x y) _ (ih x u y l a b)
    go ih (inl l) (inl a) (inr b) = via (ih x u k l a (and_l _ _ b)) (and_r (C u k) _ b)
    go ih (inl l) (inr a) (inl b) = via (and_l _ _ a) (ih k u y l (and_r (C x k) _ a) b)
    go ih (inl l) (inr a) (inr b) = via (and_l _ _ a) (and_r (C u k) _ b)

-- one step or several, each stop below k
pub data Steps (k : ℕ) (R : ℕ → ℕ → Bool) : ℕ → ℕ → Type 0 where
  last : {x y : ℕ} → So (R x y) → Steps k R x y
  on : {x y z : ℕ} → So (R x y) → y < k → Steps k R y z → Steps k R x z

steps_trans : (k : ℕ) (R : ℕ → ℕ → Bool) {x y z : ℕ} → y < k → Steps k R x y → Steps k R y z → Steps k R x z
steps_trans k R h (last e) q = on e h q
steps_trans k R h (on e l p) q = on e l (steps_trans k R h p q)

steps_closure : (k : ℕ) (R : ℕ → ℕ → Bool) (x y : ℕ) → Steps k R x y → So (closure k R x y)
steps_closure k R x y (last e) = closure_base k R x y e
steps_closure k R x y (on {y = u} e l p) = closure_trans k R x u y l (closure_base k R x u e) (steps_closure k R u y p)

-- the test is the closure
pub closure↔ : (k : ℕ) (R : ℕ → ℕ → Bool) (x y : ℕ) → So (closure k R x y) ↔ Steps k R x y
closure↔ k R x y = (
  closure_ind k R k (omega arith) (Steps k R) (λ x y e. last e) (λ x y z h p q. steps_trans k R h p q) x y,
  steps_closure k R x y,
)

-- with each number joined to itself first, the closure is that of the relation, or the number itself
pub closure_own : (k : ℕ) (R : ℕ → ℕ → Bool) (x y : ℕ) → closure k (λ i j. eqb i j || R i j) x y ≡ (eqb x y || closure k R x y)
closure_own k R x y = same_test _ _
    (closure_ind k own k (omega arith) (λ x y. So (eqb x y || closure k R x y))
    (λ x y e. elim (or_cases (eqb x y) (R x y) e) [ inl p ↦ or_l _ _ p | inr p ↦ or_r (eqb x y) _ (closure_base k R x y p) ])
    (λ x y z h p q. elim (or_cases (eqb x y) _ p) [
      | inl a ↦ rw (so_eqb x y a) q
      | inr a ↦ elim (or_cases (eqb y z) _ q) [ inl b ↦ rw (so_eqb y z b) at p | inr b ↦ or_r (eqb x z) _ (closure_trans k R x y z h a b) ]
    ]) x y)
    (λ e. elim (or_cases (eqb x y) _ e) [
      | inl p ↦ closure_base k own x y (or_l _ _ p)
      | inr p ↦ closure_ind k R k (omega arith) (λ x y. So (closure k own x y)) (λ x y r. closure_base k own x y (or_r (eqb x y) _ r)) (closure_trans k own) x y p
    ])
  where
    own : ℕ → ℕ → Bool
    own i j = eqb i j || R i j

-- relations that agree below n have closures that do
pub closure_same : (k n : ℕ) (R S : ℕ → ℕ → Bool) → k ≤ n → ((x y : ℕ) → x < n → y < n → R x y ≡ S x y) → (x y : ℕ) → x < n → y < n → closure k R x y ≡ closure k S x y
unfolding closure
closure_same zero n R S h e x y hx hy = e x y hx hy
closure_same (suc k) n R S h e x y hx hy = let same = closure_same k n R S (omega arith) e in
    ap₂ ◌||◌ (same x y hx hy) (ap₂ ◌&&◌ (same x k hx (omega arith)) (same k y (omega arith) hy))
