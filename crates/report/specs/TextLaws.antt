-- Laws for the functions that lay the line.
use Prim.Native.Nat.{ℕ, suc, ◌+◌, ◌/◌, ◌%◌, ◌≤◌, ◌<◌}
use Rattle.std.specs.Prelude.{◌≡◌, List, [], ◌∷◌, ◌++◌, length, take, drop}
use Rattle.std.proofs.Math.Path.{refl, ap₂}
use Rattle.std.proofs.Common.{sym, ◌∙◌, ap, add-one, zero-add, length-append, drop-drop}
use native.Mathlib.Omega.{arith}
use borrow.Author.Tests.{lt-ltb, le-ltb}
use Rattle.std.proofs.Math.ListN.{set}
use Rattle.std.proofs.Math.Seq.{take-append_seam, drop-append-add, sets-eq}
use Rattle.laying.specs.Laying.{laid}
use Rattle.answers.specs.Answers.{of_verdict, over}
use Rattle.answers.specs.declared.Verdict.{Verdict}
use Rattle.report.specs.Text.{digit, decimal, text_of, Over, Digits}

-- ---- texts one after another
-- the first text, and one at the end of those that are laid
pub over_first : (t old new : List ℕ) (end : ℕ) → (new ≡ laid old 0 t) × (end ≡ 0 + length t) → Over t old new end
unfolding laid
over_first t old new end e = record { bytes = e.0 ∙ ap (λ n. t ++ drop n old) (zero-add (length t)); size = e.1 ∙ zero-add (length t) }

pub over_next : (t u old mid new : List ℕ) (at end : ℕ) → Over t old mid at → new ≡ laid mid at u → end ≡ at + length u → Over (t ++ u) old new end
unfolding laid
over_next t u old mid new at end o e q = record {
  bytes = e ∙ rw (
    o.bytes,
    o.size,
    take-append_seam t (drop (length t) old),
    drop-append-add t (drop (length t) old) (length u),
    drop-drop (length u) (length t) old,
    length-append t u,
  ) refl;
  size = q ∙ rw o.size (sym (length-append t u));
}

-- ---- the line of an answer
-- the buffer's bytes, the length of the line, and the line as a part of the buffer, which lending it asks for
pub told_over : (t old new : List ℕ) (end : ℕ) → Over t old new end
    → (new ≡ over t old) × ((end ≡ length t) × ((end ≤ length new) × (end ≡ length (take end new))))
told_over t old new end o = (
  o.bytes,
  (
    o.size,
    rw (o.bytes, o.size)
        (omega (arith, length-append t (drop (length t) old)), sym (ap length (take-append_seam t (drop (length t) old)))),
  ),
)

module _ (v w : Verdict) (old new : List ℕ) (end : ℕ) where
  pub answered : v ≡ w → Over (text_of (of_verdict w)) old new end
      → (new ≡ over (text_of (of_verdict v)) old) × ((end ≡ length (text_of (of_verdict v))) × ((end ≤ length new) × (end ≡ length (take end new))))
  answered e o = rw e (told_over (text_of (of_verdict w)) old new end o)

-- ---- the digits of a number, each stored by itself
module _ (l : List ℕ) (at n : ℕ) (room : at + 3 ≤ length l) where
  pub digits_one : n < 10 → Digits l at n (set l at (digit n)) (at + 1)
  unfolding decimal laid
  digits_one h = rw (lt-ltb _ _ h) (sets-eq (digit n ∷ []) l at (omega arith), refl, omega arith)

  pub digits_two : 10 ≤ n → n < 100 → Digits l at n (set (set l at (digit (n / 10))) (at + 1) (digit (n % 10))) (at + 2)
  unfolding decimal laid
  digits_two h k = rw (le-ltb _ _ h, lt-ltb _ _ k) (rw (add-one at) (sets-eq (digit (n / 10) ∷ digit (n % 10) ∷ []) l at (omega arith)), refl, omega arith)

  pub digits_three : 100 ≤ n → Digits l at n (set (set (set l at (digit (n / 100))) (at + 1) (digit (n / 10 % 10))) (at + 2) (digit (n % 10))) (at + 3)
  unfolding decimal laid
  digits_three h =
      let y : at + 1 ≡ suc at = omega arith in let z : at + 2 ≡ suc (suc at) = omega arith in
      rw (le-ltb n 10 (let w : 10 ≤ n = omega arith in w), le-ltb _ _ h) (
        ap₂ (λ (p q : ℕ). set (set (set l at (digit (n / 100))) p (digit (n / 10 % 10))) q (digit (n % 10))) y z
            ∙ sets-eq (digit (n / 100) ∷ digit (n / 10 % 10) ∷ digit (n % 10) ∷ []) l at room,
        refl,
        omega arith,
      )
