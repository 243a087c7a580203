-- The program reads the first 196,608 bytes of its input: what it answers to these is the answer to the whole.
use Rattle.std.specs.Prelude.{ℕ, zero, suc, ◌+◌, ◌-◌, ◌*◌, ◌≤◌, ◌<◌, ◌≡◌, refl, List, [], ◌∷◌, length, take, drop}
use Rattle.std.proofs.Common.{sym, ◌∙◌, ap, ap₂, arith, length-take-le, take_all, drop_at, get_or-take, take-take, take-add}
use mathlib.Core.List.Memᴰ
use Rattle.std.proofs.Math.Decide.{dec_le}
use Rattle.parts.specs.Numbers.{num2}
use Rattle.laying.specs.Places.{Small, small_none, small_more, small_at}
use Rattle.verdict.specs.Verdict.{verdict}
use Rattle.demands.specs.Cut.{farthest}
use Rattle.demands.proofs.Cut.{cut_answers}
use Rattle.report.specs.Input.{description_in, evidence_in}
use Rattle.report.specs.Cut.{answer_to, longest}

-- ---- parts of bytes
small_take : (n : ℕ) (w : List ℕ) → Small w → Small (take n w)
small_take zero w h = small_none
small_take (suc n) [] h = small_none
small_take (suc n) (x ∷ w) h = small_more (h x (Memᴰ.head refl)) (small_take n w (λ b m. h b (Memᴰ.tail m)))

small_drop : (n : ℕ) (w : List ℕ) → Small w → Small (drop n w)
small_drop zero w h = h
small_drop (suc n) [] h = h
small_drop (suc n) (x ∷ w) h = small_drop n w (λ b m. h b (Memᴰ.tail m))

-- what is left of the first bytes, after as many of them as there are
drop_of_take : (a n : ℕ) (l : List ℕ) → a ≤ n → a ≤ length l → drop a (take n l) ≡ take (n - a) (drop a l)
drop_of_take a n l h k = let z : n ≡ a + (n - a) = omega arith in
    ap (λ m. drop a (take m l)) z ∙ ap (drop a) (take-add a (n - a) l) ∙ drop_at (take a l) (take (n - a) (drop a l)) a (length-take-le a l k)

-- ---- an input that is longer: both parts end before the cut, or where it does not matter
module _ (i : List ℕ) (small : Small i) (long : longest < length i) where
  abbrev n : ℕ
  n = num2 i 0

  few : n ≤ 65535
  few = omega (arith, small_at small 0, small_at small 1)

  same_length : num2 (take longest i) 0 ≡ n
  same_length = ap₂ (λ (a b : ℕ). a * 256 + b) (get_or-take longest i 0 0 (omega arith)) (get_or-take longest i 1 0 (omega arith))

  same_description : description_in (take longest i) ≡ description_in i
  same_description = rw (same_length, drop_of_take 2 longest i (omega arith) (omega arith)) (take-take n (longest - 2) (drop 2 i) (omega (arith, few)))

  evidence_cut : evidence_in (take longest i) ≡ take (longest - (2 + n)) (evidence_in i)
  evidence_cut = rw same_length (drop_of_take (2 + n) longest i (omega (arith, few)) (omega (arith, few)))

  long_answers : answer_to i ≡ answer_to (take longest i)
  long_answers = let s = evidence_in i in let k = longest - (2 + n) in let bytes = small_drop (2 + n) i small in
      rw (same_description, evidence_cut) (
      cut_answers s bytes (description_in i)
      ∙ ap (verdict (description_in i)) (sym (take-take (suc farthest) k s (omega (arith, few))))
      ∙ sym (cut_answers (take k s) (small_take k s bytes) (description_in i))
      )

pub first_bytes_answer : (i : List ℕ) → Small i → answer_to i ≡ answer_to (take longest i)
first_bytes_answer i small = elim (dec_le (length i) longest) [
  | yes h ↦ ap answer_to (sym (take_all longest i h))
  | no h ↦ long_answers i small (omega arith)
]
