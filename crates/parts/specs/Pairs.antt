-- Pairs (offset, length) that fill a slice (FORMAT 1): a description's three, evidence's n.
use Rattle.std.specs.Prelude.{ℕ, zero, suc, ◌+◌, ◌-◌, ◌*◌, ◌≤◌, ◌<◌, ◌≡◌, ◌↔◌, Bool, false, ◌&&◌, List, [], eqb, leb, length, take, drop}
use Rattle.std.proofs.Math.Path.{refl}
use Rattle.std.proofs.Common.{sym, ◌∙◌, subst, add-zero, add-one, length-drop, drop_of_length-le, take_all}
use native.Mathlib.Omega.{arith}
use Rattle.std.proofs.Math.Decide.{dec_lt}
use Rattle.std.proofs.Math.Nat.{sub-zero, add-sub_cancel_left}
use borrow.Author.Tests.{lt-leb, le-leb, eq-eqb, ne_eqb}
use Rattle.std.proofs.Math.Seq.{take-nil}
use Rattle.logic.specs.Tests.{So, so_and, and_l, and_r, so_eqb, eqb↔, reading}
use Rattle.parts.specs.Numbers.{num2}

-- pair i of the pairs that begin at `at`: its offset, its length, and its end as a plain number
abbrev pub offset_at : List ℕ → ℕ → ℕ → ℕ
offset_at s at i = num2 s (at + 4 * i)

abbrev pub length_at : List ℕ → ℕ → ℕ → ℕ
length_at s at i = num2 s (at + 4 * i + 2)

abbrev pub end_at : List ℕ → ℕ → ℕ → ℕ
end_at s at i = offset_at s at i + length_at s at i

-- the part that pair i names, which begins at its own offset
abbrev pub part_at : List ℕ → ℕ → ℕ → List ℕ
part_at s at i = take (length_at s at i) (drop (offset_at s at i) s)

-- where pair i is to begin: the first at `first`, any other where its predecessor ends
abbrev pub begin_at : List ℕ → ℕ → ℕ → ℕ → ℕ
begin_at s at first zero = first
begin_at s at first (suc i) = end_at s at i

-- the n pairs at `at` lie in the slice and fill it from `first`
abbrev pub Fills : List ℕ → ℕ → ℕ → ℕ → Type 0
Fills s at n first = (at + 4 * n ≤ length s) × (((i : ℕ) → i < n → offset_at s at i ≡ begin_at s at first i) × (begin_at s at first n ≡ length s))

-- ---- the same as a test
-- pairs i, i + 1, …, of which k are left, where the next one is to begin at e
unfoldable pub fills_from : List ℕ → ℕ → ℕ → ℕ → ℕ → Bool
fills_from s at zero i e = eqb e (length s)
fills_from s at (suc k) i e = eqb (offset_at s at i) e && fills_from s at k (i + 1) (end_at s at i)

unfoldable pub fills : List ℕ → ℕ → ℕ → ℕ → Bool
fills s at n first = leb (at + 4 * n) (length s) && fills_from s at n 0 first

pub fills↔ : (s : List ℕ) (at n first : ℕ) → So (fills s at n first) ↔ Fills s at n first
unfolding fills fills_from
fills↔ s at n first = simp reading (
  λ h. (h.0, let r = out n 0 (add-zero n) h.1 in (λ i l. r.0 i (omega arith) l, r.1)),
  λ h. (h.0, back n 0 (add-zero n) (λ i _ l. h.1.0 i l) h.1.1),
)
  where
    out : (k i : ℕ) → k + i ≡ n → So (fills_from s at k i (begin_at s at first i))
        → ((j : ℕ) → i ≤ j → j < n → offset_at s at j ≡ begin_at s at first j) × (begin_at s at first n ≡ length s)
    out zero i q h = (λ j a b. absurd (omega arith), let e : i ≡ n = omega arith in subst (λ j. begin_at s at first j ≡ length s) e (so_eqb _ _ h))
    out (suc k) i q h = let r = out k (suc i) (omega arith) (rw (add-one i) at (and_r (eqb (offset_at s at i) (begin_at s at first i)) _ h)) in (
      λ j a b. elim (dec_lt i j) [
        | yes l ↦ r.0 j l b
        | no l ↦ (let e : i ≡ j = omega arith in subst (λ j. offset_at s at j ≡ begin_at s at first j) e (so_eqb _ _ (and_l _ _ h)))
      ],
      r.1,
    )

    back : (k i : ℕ) → k + i ≡ n → ((j : ℕ) → i ≤ j → j < n → offset_at s at j ≡ begin_at s at first j) → begin_at s at first n ≡ length s
        → So (fills_from s at k i (begin_at s at first i))
    back zero i q h e = let z : n ≡ i = omega arith in (eqb↔ _ _).1 (subst (λ j. begin_at s at first j ≡ length s) z e)
    back (suc k) i q h e = so_and _ _ ((eqb↔ _ _).1 (h i (omega arith) (omega arith)))
        (rw (add-one i) (back k (suc i) (omega arith) (λ j a b. h j (omega arith) b) e))

-- each pair lies in the slice
pub pair_inside : (s : List ℕ) (at n first i : ℕ) → Fills s at n first → i < n → end_at s at i ≤ length s
pair_inside s at n first i f h = go (n - suc i) i (omega arith)
  where
    go : (k i : ℕ) → i + suc k ≡ n → end_at s at i ≤ length s
    go zero i q = let e : n ≡ suc i = omega arith in omega (arith, subst (λ m. begin_at s at first m ≡ length s) e f.1.1)
    go (suc k) i q = omega (arith, go k (suc i) (omega arith), f.1.0 (suc i) (omega arith))

-- ---- laws for the loop that reads the pairs
module _ (s : List ℕ) (at n first : ℕ) where
  pub fills_short : length s < at + 4 * n → fills s at n first ≡ false
  unfolding fills
  fills_short h = rw (lt-leb _ _ h) refl

  pub fills_start : at + 4 * n ≤ length s → fills_from s at (n - 0) 0 first ≡ fills s at n first
  unfolding fills
  fills_start h = rw (sub-zero, le-leb _ _ h) refl

module _ (s : List ℕ) (at n i e : ℕ) where
  left : i < n → n - i ≡ suc (n - (i + 1))
  left h = omega arith

  pub fills_on : (l : ℕ) → i < n → offset_at s at i ≡ e → l ≡ num2 s (at + 4 * i + 2)
      → fills_from s at (n - i) i e ≡ fills_from s at (n - (i + 1)) (i + 1) (e + l)
  unfolding fills_from
  fills_on l h o p = rw (left h, eq-eqb _ _ o, p, ← o) refl

  pub fills_stop : i < n → (offset_at s at i ≡ e → ⊥) → fills_from s at (n - i) i e ≡ false
  unfolding fills_from
  fills_stop h o = rw (left h, ne_eqb _ _ o) refl

  pub fills_end : n ≤ i → fills_from s at (n - i) i e ≡ eqb e (length s)
  unfolding fills_from
  fills_end h = let z : n - i ≡ 0 = omega arith in rw z refl

-- ---- laws for the function that hands a part on: the slice ends before it, in it, or after it
module _ (s : List ℕ) (from n : ℕ) where
  pub span_past : length s < from → [] ≡ take n (drop from s)
  span_past h = rw (drop_of_length-le s (let z : length s ≤ from = omega arith in z)) (sym (take-nil n))

  pub span_cut : from ≤ length s → length s - from < n → take (length s - from) (drop from s) ≡ take n (drop from s)
  span_cut h k = let l = length-drop from s in take_all (length s - from) (drop from s) (omega arith) ∙ sym (take_all n (drop from s) (omega arith))

  pub span_whole : take (from + n - from) (drop from s) ≡ take n (drop from s)
  span_whole = rw add-sub_cancel_left refl
