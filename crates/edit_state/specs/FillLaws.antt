-- Arrays that are filled to a place: what is laid behind the bytes and in them, and what is read at the front.
use Prim.Native.Nat.{ℕ, zero, suc, ◌+◌, ◌-◌, ◌*◌, ◌≤◌, ◌<◌}
use Rattle.std.specs.Prelude.{◌≡◌, refl, set, take}
use Rattle.std.proofs.Math.Path.{sym, ap}
use Rattle.std.proofs.Common.{◌∙◌, ap₂, zero-add, length-append, take_at}
use mathlib.Core.List.{List, [], ◌∷◌, ◌++◌, map, flatten, append-nil, append_assoc}
use native.Mathlib.Omega.{arith}
use Rattle.std.proofs.Math.ListN.{length, replicate, drop}
use Rattle.std.proofs.lemmas.List.{length-replicate, take-append-le, drop-append-le}
use Rattle.std.proofs.Math.Seq.{take-append_seam, take-append-add, drop-append-add, drop-append_seam}
use Rattle.laying.specs.Laying.{laid}
use Rattle.edit_state.specs.Lent.{filled}

drop_zeros : (m n : ℕ) → drop m (replicate {A = ℕ} n 0) ≡ replicate (n - m) 0
drop_zeros zero n = ap (λ k. replicate k 0) (let z : n ≡ n - 0 = omega arith in z)
drop_zeros (suc m) zero = ap (λ k. replicate k 0) (let z : 0 ≡ 0 - suc m = omega arith in z)
drop_zeros (suc m) (suc n) = drop_zeros m n ∙ ap (λ k. replicate k 0) (let z : n - m ≡ suc n - suc m = omega arith in z)

-- bytes laid behind the bytes that are there
pub filled_on : (size : ℕ) (x w : List ℕ) (at : ℕ) → at ≡ length x → length x + length w ≤ size
    → laid (filled size x) at w ≡ filled size (x ++ w)
unfolding laid filled
filled_on size x w at e h = rw e (ap₂ (λ a b. a ++ w ++ b) (take-append_seam x zeros)
    (drop-append-add x zeros (length w) ∙ drop_zeros (length w) (size - length x)
    ∙ ap (λ n. replicate n 0) (let z : size - length x - length w ≡ size - length (x ++ w) = omega (arith, length-append x w) in z)))
  where
    zeros : List ℕ
    zeros = replicate (size - length x) 0

-- the bytes that are there
pub filled_front : (size : ℕ) (x : List ℕ) (n : ℕ) → n ≡ length x → take n (drop 0 (filled size x)) ≡ x
unfolding filled
filled_front size x n e = take_at x (replicate (size - length x) 0) n (sym e)

-- bytes laid where nothing is yet
pub filled_first : (size : ℕ) (x : List ℕ) → length x ≤ size → laid (replicate size 0) 0 x ≡ filled size x
unfolding filled
filled_first size x h = ap (λ n. laid (replicate n 0) 0 x) (let z : size ≡ size - 0 = omega arith in z)
    ∙ filled_on size [] x 0 refl (omega arith)

pub filled_long : (size : ℕ) (x : List ℕ) → length x ≤ size → length (filled size x) ≡ size
unfolding filled
filled_long size x h = omega (arith, length-append x (replicate (size - length x) 0), length-replicate {A = ℕ} (size - length x) 0)

-- behind other bytes, and before them
pub laid_behind : (u v : List ℕ) (at : ℕ) (w : List ℕ) → laid (u ++ v) (length u + at) w ≡ u ++ laid v at w
unfolding laid
laid_behind u v at w = let z : length u + at + length w ≡ length u + (at + length w) = omega arith in
    ap₂ (λ a b. a ++ w ++ b) (take-append-add u v at) (ap (λ n. drop n (u ++ v)) z ∙ drop-append-add u v (at + length w))
    ∙ ap (λ a. a ++ drop (at + length w) v) (append_assoc u (take at v) w) ∙ append_assoc u (take at v ++ w) (drop (at + length w) v)

pub laid_front : (y v : List ℕ) (at : ℕ) (w : List ℕ) → at + length w ≤ length y → laid (y ++ v) at w ≡ laid y at w ++ v
unfolding laid
laid_front y v at w h = ap₂ (λ a b. a ++ w ++ b) (take-append-le at y v (omega arith)) (drop-append-le (at + length w) y v h)
    ∙ sym (append_assoc (take at y ++ w) (drop (at + length w) y) v)

-- ---- records of k bytes, one after another
module _ {A : Type 0} (k : ℕ) (write : A → List ℕ) (long : (x : A) → length (write x) ≡ k) where
  abbrev bytes : List A → List ℕ
  bytes xs = flatten (map write xs)

  -- one more
  pub bytes_snoc : (xs : List A) (x : A) → bytes (xs ++ (x ∷ [])) ≡ bytes xs ++ write x
  unfolding flatten
  bytes_snoc [] x = append-nil (write x)
  bytes_snoc (y ∷ xs) x = ap (λ w. write y ++ w) (bytes_snoc xs x) ∙ sym (append_assoc (write y) (bytes xs) (write x))

  -- another in the place of one
  laid_over : (u v w : List ℕ) → length u ≡ length w → laid (u ++ v) 0 w ≡ w ++ v
  unfolding laid
  laid_over u v w e = ap (λ n. w ++ drop n (u ++ v)) (zero-add (length w) ∙ sym e) ∙ ap (λ r. w ++ r) (drop-append_seam u v)

  laid_among : (xs : List A) (i : ℕ) (x : A) (tail : List ℕ) → i < length xs
      → laid (bytes xs ++ tail) (k * i) (write x) ≡ bytes (set xs i x) ++ tail
  unfolding flatten
  laid_among [] i x tail h = absurd (omega arith)
  laid_among (y ∷ xs) zero x tail h = ap (λ s. laid s (k * 0) (write x)) (append_assoc (write y) (bytes xs) tail)
      ∙ ap (λ n. laid (write y ++ (bytes xs ++ tail)) n (write x)) (let z : k * 0 ≡ 0 = omega arith in z)
      ∙ laid_over (write y) (bytes xs ++ tail) (write x) (long y ∙ sym (long x)) ∙ sym (append_assoc (write x) (bytes xs) tail)
  laid_among (y ∷ xs) (suc i) x tail h = ap (λ s. laid s (k * suc i) (write x)) (append_assoc (write y) (bytes xs) tail)
      ∙ ap (λ n. laid (write y ++ (bytes xs ++ tail)) n (write x))
      (let z : k * suc i ≡ length (write y) + k * i = omega (arith, long y) in z)
      ∙ laid_behind (write y) (bytes xs ++ tail) (k * i) (write x) ∙ ap (λ s. write y ++ s) (laid_among xs i x tail (omega arith))
      ∙ sym (append_assoc (write y) (bytes (set xs i x)) tail)

  pub filled_set : (size : ℕ) (xs : List A) (i : ℕ) (x : A) → i < length xs → length (bytes (set xs i x)) ≡ length (bytes xs)
      → laid (filled size (bytes xs)) (k * i) (write x) ≡ filled size (bytes (set xs i x))
  unfolding filled
  filled_set size xs i x h e = laid_among xs i x (replicate (size - length (bytes xs)) 0) h
      ∙ ap (λ n. bytes (set xs i x) ++ replicate (size - n) 0) (sym e)
