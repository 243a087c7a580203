-- A word's last bytes, pasted over those of a buffer, are the number.
use Prim.Native.Nat.{zero, suc, ◌/◌, ◌%◌, ◌^◌}
use Rattle.std.specs.Prelude.{ℕ, ◌+◌, ◌-◌, ◌*◌, ◌≤◌, ◌<◌, ◌≡◌, ◌⊎◌, refl, List, ◌++◌, length, get_or, take, drop}
use Rattle.std.specs.Int.{w64, to_be_bytes}
use Rattle.std.proofs.Common.{◌∙◌, ap, inl, inr, arith, length-drop, length-append}
use Rattle.std.proofs.Math.ListN.{get_or-append}
use borrow.Rule.Slice.PartMut.{put_mid}
use Rattle.std.proofs.lemmas.Slice.{put_mid-paste}
use Rattle.std.proofs.Math.Seq.{take-length}
use Rattle.std.proofs.lemmas.List.{get_or-append_right, get_or-take, get_or-drop, length-take-le}
use Rattle.parts.specs.Numbers.{byte_at}
use Rattle.lines.specs.Numerals.{Numeral}
use Rattle.lines.specs.Laying.{Laid}

-- text over the bytes at a place
abbrev pub pasted : List ℕ → ℕ → List ℕ → List ℕ
pasted old at text = take at old ++ text ++ drop (at + length text) old

module _ (old text : List ℕ) (at : ℕ) (room : at + length text ≤ length old) where
  front : length (take at old) ≡ at
  front = length-take-le at old (omega arith)

  both : length (take at old ++ text) ≡ at + length text
  both = length-append (take at old) text ∙ ap (λ n. n + length text) front

  here : (i : ℕ) → i < length text → byte_at (pasted old at text) (at + i) ≡ byte_at text i
  here i h = get_or-append (take at old ++ text) _ 0 (at + i) (omega (arith, both)) ∙ get_or-append_right (take at old) text at (at + i) 0 front (omega arith)
      ∙ ap (λ n. get_or text n 0) {x = at + i - at} {y = i} (omega arith)

  apart : (p : ℕ) → (p < at) ⊎ (at + length text ≤ p) → byte_at (pasted old at text) p ≡ byte_at old p
  apart p (inl h) = get_or-append (take at old ++ text) _ 0 p (omega (arith, both)) ∙ get_or-append (take at old) text 0 p (omega (arith, front)) ∙ get_or-take at old p 0 h
  apart p (inr h) = get_or-append_right (take at old ++ text) _ (at + length text) p 0 both h
      ∙ get_or-drop (at + length text) old (p - (at + length text)) 0
      ∙ ap (λ n. get_or old n 0) {x = at + length text + (p - (at + length text))} {y = p} (omega arith)

  whole_lem : length (pasted old at text) ≡ length old
  whole_lem = length-append (take at old ++ text) _ ∙ omega (arith, both, length-drop (at + length text) old)

-- byte i of a word
word_byte : (m i : ℕ) → i < 8 → get_or (to_be_bytes w64 m) i 0 ≡ m / 256 ^ (7 - i) % 256
word_byte m zero h = refl
word_byte m (suc zero) h = refl
word_byte m (suc (suc zero)) h = refl
word_byte m (suc (suc (suc zero))) h = refl
word_byte m (suc (suc (suc (suc zero)))) h = refl
word_byte m (suc (suc (suc (suc (suc zero))))) h = refl
word_byte m (suc (suc (suc (suc (suc (suc zero)))))) h = refl
word_byte m (suc (suc (suc (suc (suc (suc (suc zero))))))) h = omega arith
word_byte m (suc (suc (suc (suc (suc (suc (suc (suc i)))))))) h = absurd (omega arith)

-- the last w bytes of a word
abbrev pub word_end : ℕ → ℕ → List ℕ
word_end w m = take (8 - (8 - w)) (drop (8 - w) (to_be_bytes w64 m))

pub end_long : (w m : ℕ) → w ≤ 8 → length (word_end w m) ≡ w
end_long w m few = length-take-le (8 - (8 - w)) (drop (8 - w) (to_be_bytes w64 m)) (omega (arith, length-drop (8 - w) (to_be_bytes w64 m))) ∙ omega arith

-- are the number, if it has no more
pub word_laid : (w at m : ℕ) (old : List ℕ) (read : List ℕ → ℕ → ℕ) → Numeral w read → w ≤ 8 → at + w ≤ length old → m < 2 ^ (8 * w)
    → Laid w read at (λ i. m) old 1 (pasted old at (word_end w m))
word_laid w at m old read k few room fits = record {
  whole = whole_lem old (word_end w m) at (omega (arith, long));
  numbers = λ i h. let z : i ≡ 0 = omega arith in let y : at + w * 0 ≡ at = omega arith in
      rw (z, y) (k.made (pasted old at (word_end w m)) at m fits (λ j g. here old (word_end w m) at (omega (arith, long)) j (omega (arith, long))
      ∙ get_or-take (8 - (8 - w)) (drop (8 - w) (to_be_bytes w64 m)) j 0 (omega arith)
      ∙ get_or-drop (8 - w) (to_be_bytes w64 m) j 0 ∙ word_byte m (8 - w + j) (omega arith)
      ∙ ap (λ n. m / 256 ^ n % 256) {x = 7 - (8 - w + j)} {y = w - 1 - j} (omega arith)));
  others = λ p o. apart old (word_end w m) at (omega (arith, long)) p (elim o [ inl q ↦ inl q | inr q ↦ inr (omega (arith, long)) ]);
}
  where
    long : length (word_end w m) ≡ w
    long = end_long w m few

-- where a slice of the buffer has been written, text is pasted
pub put_pasted : (old text : List ℕ) (at k : ℕ) → length text ≡ k → put_mid at k old text ≡ pasted old at text
put_pasted old text at k e = put_mid-paste at k old text text (length text) refl e refl
    ∙ ap (λ u. take at old ++ u ++ drop (at + length text) old) (take-length text)
