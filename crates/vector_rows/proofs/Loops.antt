-- Laws for a loop that goes from mark to mark, or from digit to digit: fields as such a loop passes them, and bytes decoded.
use Rattle.std.specs.Prelude.{ℕ, zero, suc, ◌+◌, ◌-◌, ◌/◌, ◌≤◌, ◌<◌, ◌≡◌, refl, ◌⊎◌, List, [], length, take, drop}
use Rattle.std.proofs.Common.{sym, ◌∙◌, ap, inl, inr, arith, drop_of_length-le, length-take-le, drop-drop}
use Rattle.parts.specs.Filling.{Filled}
use Rattle.vector_rows.specs.Rows.{byte_said, Decoded, until, skip}
use Rattle.vector_rows.proofs.Parts.{take_until}

-- ---- digits
-- after the digits, and after the buffer
pub decoded : (hex old new : List ℕ) (n : ℕ) → n ≤ length hex / 2 → n ≤ length old → (length hex / 2 ≤ n) ⊎ (length old ≤ n) → Filled (length old) (λ i. byte_said hex i 0) n new
    → Decoded hex old new n
decoded hex old new n h k e f = record {
  count = elim e [ inl l ↦ omega arith | inr l ↦ omega arith ];
  filled = f;
  part = sym (length-take-le n new (omega (arith, f.size)));
}

-- ---- fields
pub skip_none : (mark k : ℕ) → skip mark k [] ≡ []
unfolding skip until
skip_none mark zero = refl
skip_none mark (suc k) = skip_none mark k

-- one mark more
pub skip_more : (mark : ℕ) (all : List ℕ) (k i at end : ℕ) → i < k → end ≡ at + length (until mark (drop at all)) → skip mark (k - i) (drop at all) ≡ skip mark (k - (i + 1)) (drop (end + 1) all)
unfolding skip
skip_more mark all k i at end h e =
    let z : k - i ≡ suc (k - (i + 1)) = omega arith in
    rw z (ap (skip mark (k - (i + 1))) (drop-drop (length (until mark (drop at all)) + 1) at all ∙ ap (λ n. drop n all) (let y : at + (length (until mark (drop at all)) + 1) ≡ end + 1 = omega arith in y)))

-- no mark more
pub skip_end : (mark : ℕ) (all : List ℕ) (k i at end : ℕ) → i < k → end ≡ at + length (until mark (drop at all)) → end ≡ length all → drop end all ≡ skip mark (k - i) (drop at all)
skip_end mark all k i at end h e g =
    drop_of_length-le all (let z : length all ≤ end = omega arith in z)
    ∙ sym (skip_more mark all k i at end h e ∙ rw (drop_of_length-le all (let z : length all ≤ end + 1 = omega arith in z)) (skip_none mark (k - (i + 1))))

-- no mark left to pass
pub skip_done : (mark k i : ℕ) (xs : List ℕ) → k ≤ i → xs ≡ skip mark (k - i) xs
unfolding skip
skip_done mark k i xs h = let z : k - i ≡ 0 = omega arith in rw z refl

-- the part from a field's start to its mark
pub field_is : (mark : ℕ) (all xs : List ℕ) (at end : ℕ) → drop at all ≡ xs → end ≡ at + length (until mark (drop at all)) → take (end - at) (drop at all) ≡ until mark xs
field_is mark all xs at end e g =
    let z : end - at ≡ length (until mark (drop at all)) = omega arith in
    rw z (take_until mark (drop at all) ∙ ap (until mark) e)
