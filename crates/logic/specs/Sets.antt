-- A set of numbers, as the binary digits of one number: labels, role masks, cells and types are such sets, of any width.
use Rattle.std.specs.Prelude.{ℕ, zero, suc, ◌+◌, ◌*◌, ◌/◌, ◌%◌, ◌^◌, Bool, eqb, ltb}
use Rattle.std.specs.Int.Bits.{bit_and, bit_or}
use Rattle.logic.specs.Sums.{only}

-- i is in the set n: bit i of n
unfoldable pub has : ℕ → ℕ → Bool
has n i = eqb (n / 2 ^ i % 2) 1

-- the set n is not empty
unfoldable pub nonempty : ℕ → Bool
nonempty n = ltb 0 n

-- the set n holds numbers below k alone
unfoldable pub narrow : ℕ → ℕ → Bool
narrow n k = ltb n (2 ^ k)

-- the set a lies within the set b
unfoldable pub within : ℕ → ℕ → Bool
within a b = eqb (bit_and a b) a

-- the set n with i put in
unfoldable pub with : ℕ → ℕ → ℕ
with n i = bit_or n (2 ^ i)

-- the set of the numbers below k that pass
unfoldable pub set_of : ℕ → (ℕ → Bool) → ℕ
set_of zero p = 0
set_of (suc k) p = only (p 0) 1 + 2 * set_of k (λ i. p (suc i))
