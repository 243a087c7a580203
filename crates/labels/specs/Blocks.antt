-- A set in two words: the members below k in the lower word, the others in the upper. For any k.
use Rattle.std.specs.Prelude.{ℕ, zero, suc, ◌+◌, ◌-◌, ◌*◌, ◌/◌, ◌%◌, ◌^◌, ◌<◌, ◌≤◌, ◌≡◌, refl, Bool, true, false, ◌&&◌, eqb, ltb}
use Rattle.std.proofs.Common.{sym, ◌∙◌, ap, arith, div-one, mul-le-mul_right, suc-mul, pow-add, pow_mono, pow_pos, shr-shr, eq-eqb, ne_eqb, eqb-true}
use Rattle.std.proofs.Math.Decide.{dec_lt}
use Rattle.std.proofs.Math.Nat.{div-eq_of_lt}
use Rattle.std.proofs.Math.Pow.{high, low, pow-lt}
use Rattle.std.specs.Int.Bits.{bit_and, bit_or, and_lt, or_zero_r, block_half, block_odd}
use Rattle.std.proofs.lemmas.Nat.{and_block, or_block}
use Rattle.std.proofs.lemmas.Bool.{eqb-false}
use Rattle.logic.specs.Tests.{so_and, and_l, and_r, so_eqb, so_ltb, same_test}
use Rattle.logic.specs.Sets.{has, narrow, within, with}
use Rattle.logic.specs.SetLaws.{has_suc, narrow↔}

-- the number whose upper word is hi and whose lower word, of k digits, is lo
abbrev pub block : ℕ → ℕ → ℕ → ℕ
block k hi lo = hi * 2 ^ k + lo

first : (n : ℕ) → has n 0 ≡ eqb (n % 2) 1
unfolding has
first n = ap (λ (m : ℕ). eqb (m % 2) 1) (div-one n)

pub has_low : (i k hi lo : ℕ) → i < k → has lo i ≡ has (block k hi lo) i
has_low i zero hi lo h = absurd (omega arith)
has_low zero (suc k) hi lo h = first lo ∙ ap (λ (n : ℕ). eqb n 1) (sym (block_odd hi k lo)) ∙ sym (first (block (suc k) hi lo))
has_low (suc i) (suc k) hi lo h = has_suc lo i ∙ has_low i k hi (lo / 2) (omega arith) ∙ ap (λ (n : ℕ). has n i) (sym (block_half hi k lo)) ∙ sym (has_suc (block (suc k) hi lo) i)

pub has_high : (k hi lo i : ℕ) → lo < 2 ^ k → k ≤ i → has hi (i - k) ≡ has (block k hi lo) i
unfolding has
has_high k hi lo i h g = let e : k + (i - k) ≡ i = omega arith in
    ap (λ (n : ℕ). eqb (n / 2 ^ (i - k) % 2) 1) (sym (high hi k h)) ∙ ap (λ (n : ℕ). eqb (n % 2) 1) (shr-shr (block k hi lo) k (i - k))
    ∙ ap (λ (n : ℕ). eqb (block k hi lo / 2 ^ n % 2) 1) e

eqb_block : (k a b r s : ℕ) → r < 2 ^ k → s < 2 ^ k → (eqb a b && eqb r s) ≡ eqb (block k a r) (block k b s)
eqb_block k a b r s hr hs = go (eqb a b) refl
  where
    lower : (t : Bool) → eqb r s ≡ t → t ≡ eqb (block k b r) (block k b s)
    lower true f = sym (eq-eqb _ _ (ap (λ (n : ℕ). block k b n) (eqb-true r s f)))
    lower false f = sym (ne_eqb _ _ (λ g. eqb-false r s f (sym (low b k hr) ∙ ap (λ (n : ℕ). n % 2 ^ k) g ∙ low b k hs)))

    go : (t : Bool) → eqb a b ≡ t → (t && eqb r s) ≡ eqb (block k a r) (block k b s)
    go true e = rw (eqb-true a b e) (lower (eqb r s) refl)
    go false e = sym (ne_eqb _ _ (λ g. eqb-false a b e (sym (high a k hr) ∙ ap (λ (n : ℕ). n / 2 ^ k) g ∙ high b k hs)))

pub within_block : (k a b r s : ℕ) → r < 2 ^ k → s < 2 ^ k → (within a b && within r s) ≡ within (block k a r) (block k b s)
unfolding within
within_block k a b r s hr hs = rw (and_block k a b r s hr hs) (eqb_block k (bit_and a b) a (bit_and r s) r (and_lt k r s hr hs) hr)

-- a set of numbers below n, by words: n within the lower word, or past it
pub narrow_low : (k hi lo n : ℕ) → lo < 2 ^ k → n ≤ k → (eqb hi 0 && narrow lo n) ≡ narrow (block k hi lo) n
unfolding narrow
narrow_low k hi lo n h g = same_test _ _
    (λ u. let e = so_eqb hi 0 (and_l _ _ u) in let z : block k 0 lo ≡ lo = omega arith in rw (e, z) (and_r (eqb hi 0) _ u))
    (λ u. let q = so_ltb (block k hi lo) (2 ^ n) u in let w : 2 ^ n ≤ 2 ^ k = pow_mono g in
    let e : hi ≡ 0 = sym (high hi k h) ∙ div-eq_of_lt (omega arith) in let z : block k 0 lo ≡ lo = omega arith in
    so_and (eqb hi 0) (ltb lo (2 ^ n)) (rw e refl) (rw (e, z) at u))

pub narrow_high : (k hi lo n : ℕ) → lo < 2 ^ k → k ≤ n → narrow hi (n - k) ≡ narrow (block k hi lo) n
narrow_high k hi lo n h g = same_test _ _
    (λ u. (narrow↔ (block k hi lo) n).1 (λ i m. elim (dec_lt i k) [
      | yes l ↦ omega arith
      | no l ↦ let q : k ≤ i = omega arith in let w = (narrow↔ hi (n - k)).0 u (i - k) (has_high k hi lo i h q ∙ m) in omega arith
    ]))
    (λ u. (narrow↔ hi (n - k)).1 (λ i m. let e : k + i - k ≡ i = omega arith in
    let w = (narrow↔ (block k hi lo) n).0 u (k + i) (sym (has_high k hi lo (k + i) h (omega arith)) ∙ ap (has hi) e ∙ m) in omega arith))

-- a member put in, by words
pub with_low : (k hi lo i : ℕ) → lo < 2 ^ k → i < k → block k hi (with lo i) ≡ with (block k hi lo) i
unfolding with
with_low k hi lo i h g = let z : 0 * 2 ^ k + 2 ^ i ≡ 2 ^ i = omega arith in
    ap (λ (n : ℕ). block k n (bit_or lo (2 ^ i))) (sym (or_zero_r hi)) ∙ sym (or_block k hi 0 lo (2 ^ i) h (pow-lt g)) ∙ ap (bit_or (block k hi lo)) z

pub with_high : (k hi lo i : ℕ) → lo < 2 ^ k → k ≤ i → block k (with hi (i - k)) lo ≡ with (block k hi lo) i
unfolding with
with_high k hi lo i h g =
    let e : 2 ^ (i - k) * 2 ^ k + 0 ≡ 2 ^ i = (let a : i - k + k ≡ i = omega arith in let z : 2 ^ (i - k) * 2 ^ k + 0 ≡ 2 ^ (i - k) * 2 ^ k = omega arith in z ∙ sym (pow-add 2 (i - k) k) ∙ ap (λ (n : ℕ). 2 ^ n) a) in
    ap (λ (n : ℕ). block k (bit_or hi (2 ^ (i - k))) n) (sym (or_zero_r lo)) ∙ sym (or_block k hi (2 ^ (i - k)) lo 0 h (pow_pos k)) ∙ ap (λ (n : ℕ). bit_or (block k hi lo) n) e

-- two words of k digits are one of twice as many
pub block_lt : (k hi lo : ℕ) → hi < 2 ^ k → lo < 2 ^ k → block k hi lo < 2 ^ (k + k)
block_lt k hi lo h g = let w : suc hi * 2 ^ k ≤ 2 ^ k * 2 ^ k = mul-le-mul_right (2 ^ k) h in let e : suc hi * 2 ^ k ≡ hi * 2 ^ k + 2 ^ k = suc-mul hi (2 ^ k) in
    rw (pow-add 2 k k) (omega arith)
