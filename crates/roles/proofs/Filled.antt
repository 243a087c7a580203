-- An array that `array::from_fn` filled: each element is what its call gave, for a closure that changes nothing.
use Rattle.std.specs.Prelude.{ℕ, zero, suc, ◌+◌, ◌≤◌, ◌<◌, ◌≡◌, List, get_or}
use Rattle.std.specs.Array.{IsFromFnResult, IsFromFnResultFrom}
use Rattle.std.proofs.Common.{◌∙◌, subst, arith}
use Rattle.std.proofs.Math.Decide.{dec_lt}
use denote.Param.Members.{Mut, Called}

module _ {F B : Type 0} {g : Mut F (ℕ × Unit {0}) B} {f : F} {n : ℕ} (ys : List B) (d : B) (h : ℕ → B)
    (k : (x : ℕ) (y : B) (q : F) → x < n → Called g f (x, tt) y q → (q ≡ f) × (y ≡ h x)) where
  from : (m i : ℕ) → IsFromFnResultFrom g f ys i m → i + m ≤ n → (j : ℕ) → i ≤ j → j < i + m → get_or ys j d ≡ h j
  from zero i e l j a b = absurd (omega arith)
  from (suc m) i e l j a b = let w = k i e.1 e.0 (omega arith) e.3 in elim (dec_lt i j) [
    | yes z ↦ from m (i + 1) (subst (λ q. IsFromFnResultFrom g q ys (i + 1) m) w.0 e.4) (omega arith) j (omega arith) (omega arith)
    | no z ↦ (let q : j ≡ i = omega arith in rw q (e.2.1 d ∙ w.1))
  ]

  pub filled : IsFromFnResult g f ys n → (j : ℕ) → j < n → get_or ys j d ≡ h j
  filled r j b = from n 0 r.each (omega arith) j (omega arith) (omega arith)
