-- What `array::from_fn` makes of a closure that changes nothing: at each index what the closure answers there.
use Rattle.std.specs.Prelude.{ℕ, zero, suc, ◌+◌, ◌<◌, ◌≡◌, List, get_or}
use Rattle.std.specs.Fn.{Called}
use Rattle.std.specs.Array.{IsFromFnResultFrom, IsFromFnResult}
use Rattle.std.proofs.Common.{sym, subst, arith}
use denote.Param.Members.{Mut}

module _ {F B : Type 0} {g : Mut F (ℕ × Unit {0}) B} {f : F} (P : ℕ → B → Type 0) (d : B)
    (told : (i : ℕ) (b : B) (q : F) → Called g f (i, tt) b q → (q ≡ f) × P i b) where
  from : (ys : List B) (a n : ℕ) → IsFromFnResultFrom g f ys a n → (i : ℕ) → i < n → P (a + i) (get_or ys (a + i) d)
  from ys a zero r i l = absurd (omega arith)
  from ys a (suc n) r zero l = let z : a + 0 ≡ a = omega arith in rw z (subst (P a) (sym (r.2.1 d)) (told a r.1 r.0 r.3).1)
  from ys a (suc n) r (suc i) l = let z : a + suc i ≡ a + 1 + i = omega arith in
      rw z (from ys (a + 1) n (subst (λ q. IsFromFnResultFrom g q ys (a + 1) n) (told a r.1 r.0 r.3).0 r.4) i (omega arith))

  -- P holds of the element at each index
  pub each_made : (ys : List B) (n : ℕ) → IsFromFnResult g f ys n → (i : ℕ) → i < n → P i (get_or ys i d)
  each_made ys n r i l = let z : 0 + i ≡ i = omega arith in rw z at (from ys 0 n r.each i l)

-- the element at an index is what h has there
pub made_at : {F B : Type 0} {g : Mut F (ℕ × Unit {0}) B} {f : F} (h : ℕ → B) (d : B)
    → ((i : ℕ) (b : B) (q : F) → Called g f (i, tt) b q → (q ≡ f) × (b ≡ h i))
    → (ys : List B) (n : ℕ) → IsFromFnResult g f ys n → (i : ℕ) → i < n → get_or ys i d ≡ h i
made_at h d told = each_made (λ i b. b ≡ h i) d told
