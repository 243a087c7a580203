-- Numbers in bytes (FORMAT 1).
use Rattle.std.specs.Prelude.{ℕ, ◌+◌, ◌*◌, ◌%◌, ◌≤◌, ◌<◌, ◌≡◌, refl, cond, List, ltb, length, get_or}
use Rattle.std.proofs.Common.{arith, mod-eq_of_lt, lt-ltb, le-ltb}
use Rattle.std.proofs.Math.Decide.{dec_lt}
use Rattle.std.proofs.Math.ListN.{get_or-eq_default}

-- the byte at a place; 0 past the end
abbrev pub byte_at : List ℕ → ℕ → ℕ
byte_at s at = get_or s at 0

-- the two-byte number at a place, high byte first
abbrev pub num2 : List ℕ → ℕ → ℕ
num2 s at = byte_at s at * 256 + byte_at s (at + 1)

-- past the end it is 0
pub past : (s : List ℕ) (at : ℕ) → length s ≤ at → 0 ≡ num2 s at
past s at h = rw (get_or-eq_default s 0 h, get_or-eq_default s 0 (let z : length s ≤ at + 1 = omega arith in z)) refl

-- with the low byte past the end it is the high byte's worth
pub past_low : (s : List ℕ) (at : ℕ) → length s < at + 2 → byte_at s at * 256 ≡ num2 s at
past_low s at h = rw (get_or-eq_default s 0 (let z : length s ≤ at + 1 = omega arith in z)) (omega arith)

-- a number, or the most that it may be
abbrev pub up_to : ℕ → ℕ → ℕ
up_to most n = cond (ltb n most) n most

pub up_to_less : (most n : ℕ) → n < most → most ≤ 256 → n % 256 ≡ up_to most n
up_to_less most n h g = let z : n < 256 = omega arith in rw (lt-ltb _ _ h) (mod-eq_of_lt z)

pub up_to_most : (most n : ℕ) → most ≤ n → most ≡ up_to most n
up_to_most most n h = rw (le-ltb _ _ h) refl

pub up_to_all : (most n : ℕ) → n ≤ most → up_to most n ≡ n
up_to_all most n h = elim (dec_lt n most) [ yes l ↦ rw (lt-ltb _ _ l) refl | no l ↦ (let z : most ≤ n = omega arith in rw (le-ltb _ _ z) (omega arith)) ]
