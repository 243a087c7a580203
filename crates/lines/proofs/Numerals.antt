-- Numbers of w bytes are read as they stand: one byte, and twice as many.
use Prim.Native.Nat.{ℕ, zero, suc, ◌+◌, ◌-◌, ◌*◌, ◌/◌, ◌%◌, ◌^◌, ◌≤◌, ◌<◌}
use Rattle.std.specs.Prelude.{◌≡◌, refl, Bool, true, false, List}
use Rattle.std.proofs.Common.{sym, ◌∙◌, ap₂, arith, add-zero, mod-lt, mod-eq_of_lt, div-one, mul-suc, mul-le-mul_right, suc-mul, pow-suc, pow-add, pow_pos, shr_lt, shr-shr}
use Rattle.std.proofs.Math.Path.{ap}
use Rattle.std.proofs.Math.Decide.{dec_lt}
use Rattle.std.proofs.Math.Dec.{eqb}
use Rattle.std.proofs.Math.Pow as Pow
use Rattle.std.proofs.Math.Pow.{split, field, mod-mod-pow}
use Rattle.logic.specs.Tests.{so_false}
use Rattle.logic.specs.Sets.{has}
use Rattle.logic.specs.SetLaws.{has_lt}
use Rattle.parts.specs.Numbers.{byte_at, num2}
use Rattle.labels.specs.Blocks.{block, has_low}
use Rattle.labels.specs.Labels.{name_bytes, names_in}
use Rattle.lines.specs.Lines.{byte_of}
use Rattle.lines.specs.Numerals.{Bytes, Numeral}

-- ---- bytes of the halves
byte_power : (j : ℕ) → 256 ^ j ≡ 2 ^ (8 * j)
byte_power zero = refl
byte_power (suc j) = pow-suc 256 j ∙ ap (λ (n : ℕ). n * 256) (byte_power j)
    ∙ sym (ap (λ (n : ℕ). 2 ^ n) (mul-suc 8 j) ∙ pow-add 2 (8 * j) 8)

module _ (w n i : ℕ) (h : i < w) where
  high_byte : byte_of w (n / 2 ^ (8 * w)) i ≡ byte_of (2 * w) n i
  high_byte = let e : 8 * w + 8 * (w - 1 - i) ≡ 8 * (2 * w - 1 - i) = omega arith in
      ap (λ (k : ℕ). n / 2 ^ (8 * w) / k % 256) (byte_power (w - 1 - i)) ∙ ap (λ (k : ℕ). k % 256) (shr-shr n (8 * w) (8 * (w - 1 - i)))
      ∙ ap (λ (k : ℕ). n / 2 ^ k % 256) e ∙ ap (λ (k : ℕ). n / k % 256) (sym (byte_power (2 * w - 1 - i)))

  low_byte : byte_of w (n % 2 ^ (8 * w)) i ≡ byte_of (2 * w) n (w + i)
  low_byte = let e : 8 * w ≡ 8 * i + 8 + 8 * j = omega arith in let g : w - 1 - i ≡ 2 * w - 1 - (w + i) = omega arith in
      ap (λ (k : ℕ). n % 2 ^ (8 * w) / k % 256) (byte_power j) ∙ ap (λ (k : ℕ). n % 2 ^ k / 2 ^ (8 * j) % 256) e
      ∙ ap (λ (k : ℕ). k % 256) (field n (8 * i + 8) (8 * j)) ∙ mod-mod-pow (n / 2 ^ (8 * j)) (8 * i) 8
      ∙ ap (λ (k : ℕ). n / k % 256) (sym (byte_power j)) ∙ ap (λ (k : ℕ). n / 256 ^ k % 256) g
    where
      j : ℕ
      j = w - 1 - i

-- ---- one byte, and twice as many
one : Numeral 1 byte_at
one = record {
  local = λ l m p e. e p (omega arith) (omega arith);
  made = λ l at n h e. ap (byte_at l) (sym (add-zero at)) ∙ e 0 (omega arith) ∙ rw (div-one n) (mod-eq_of_lt h);
  fits = λ l at b. b at;
  byte = λ l at i b h. let z : i ≡ 0 = omega arith in rw (z, add-zero at, div-one (byte_at l at)) (sym (mod-eq_of_lt (b at)));
}

twice : {w : ℕ} {read : List ℕ → ℕ → ℕ} → Numeral w read → Numeral (2 * w) (λ l at. block (8 * w) (read l at) (read l (at + w)))
twice {w} {read} k = record {
  local = λ l m p e. ap₂ (block (8 * w))
      (k.local l m p (λ q a b. e q a (omega arith))) (k.local l m (p + w) (λ q a b. e q (omega arith) (omega arith)));
  made = λ l at n h e. ap₂ (block (8 * w))
      (k.made l at (n / 2 ^ (8 * w)) (shr_lt (8 * w) (8 * w) (rw double at h)) (λ i g. e i (omega arith) ∙ sym (high_byte w n i g)))
      (k.made l (at + w) (n % 2 ^ (8 * w)) (mod-lt n (pow_pos (8 * w)))
      (λ i g. ap (byte_at l) (along at i) ∙ e (w + i) (omega arith) ∙ sym (low_byte w n i g)))
      ∙ split n (8 * w);
  fits = λ l at b. rw (double, pow-add 2 (8 * w) (8 * w)) (below (k.fits l at b) (k.fits l (at + w) b));
  byte = λ l at i b h. half l at i b h (dec_lt i w);
}
  where
    double : 8 * (2 * w) ≡ 8 * w + 8 * w
    double = omega arith

    along : (at i : ℕ) → at + w + i ≡ at + (w + i)
    along at i = omega arith

    below : {a b m : ℕ} → a < m → b < m → a * m + b < m * m
    below {a} {b} {m} h l = let z : suc a * m ≤ m * m = mul-le-mul_right m h in omega (arith, z, suc-mul a m)

    half : (l : List ℕ) (at i : ℕ) → Bytes l → i < 2 * w → Dec (i < w)
        → byte_at l (at + i) ≡ byte_of (2 * w) (block (8 * w) (read l at) (read l (at + w))) i
    half l at i b h (yes g) = k.byte l at i b g ∙ ap (λ n. byte_of w n i) (sym (Pow.high (read l at) (8 * w) (k.fits l (at + w) b)))
        ∙ high_byte w (block (8 * w) (read l at) (read l (at + w))) i g
    half l at i b h (no g) = let z : w + (i - w) ≡ i = omega arith in
        ap (λ j. byte_at l (at + j)) (sym z) ∙ ap (byte_at l) (sym (along at (i - w))) ∙ k.byte l (at + w) (i - w) b (omega arith)
        ∙ ap (λ n. byte_of w n (i - w)) (sym (Pow.low (read l at) (8 * w) (k.fits l (at + w) b)))
        ∙ low_byte w (block (8 * w) (read l at) (read l (at + w))) (i - w) (omega arith) ∙ ap (byte_of (2 * w) _) z

-- ---- role masks, and name masks of either width
pub two : Numeral 2 num2
two = twice one

pub names : (broad : Bool) → Numeral (name_bytes broad) (names_in broad)
unfolding name_bytes names_in
names false = twice two
names true = twice (twice two)

-- ---- bit e of a number is bit e % 8 of one of its bytes
module _ {w : ℕ} {read : List ℕ → ℕ → ℕ} (k : Numeral w read) (l : List ℕ) (at e : ℕ) (small : Bytes l) where
  pub bit_byte : e < 8 * w → has (byte_at l (at + (w - 1 - e / 8))) (e % 8) ≡ has (read l at) e
  unfolding has
  bit_byte h = ap (λ n. has n (e % 8)) (k.byte l at (w - 1 - e / 8) small (omega arith) ∙ ap (λ (j : ℕ). n / 256 ^ j % 256) own
      ∙ ap (λ (j : ℕ). n / j % 256) (byte_power (e / 8)))
      ∙ has_low (e % 8) 8 (m / 2 ^ 8) (m % 2 ^ 8) (omega arith) ∙ ap (λ n. has n (e % 8)) (split m 8)
      ∙ ap (λ (n : ℕ). eqb (n % 2) 1) (shr-shr n (8 * (e / 8)) (e % 8)) ∙ ap (λ (i : ℕ). eqb (n / 2 ^ i % 2) 1) whole
    where
      n : ℕ
      n = read l at

      m : ℕ
      m = n / 2 ^ (8 * (e / 8))

      own : w - 1 - (w - 1 - e / 8) ≡ e / 8
      own = omega arith

      whole : 8 * (e / 8) + e % 8 ≡ e
      whole = omega arith

  pub bit_past : 8 * w ≤ e → has (read l at) e ≡ false
  bit_past h = so_false _ (λ u. let z = has_lt (8 * w) (read l at) e (k.fits l at small) u in omega arith)
