-- Numbers of w bytes, high byte first, where they stand: read from their bytes, and each byte had from them. From width w comes 2 * w.
use Prim.Native.Nat.{ℕ, ◌+◌, ◌*◌, ◌^◌, ◌≤◌, ◌<◌}
use Rattle.std.specs.Prelude.{◌≡◌, List}
use Rattle.parts.specs.Numbers.{byte_at}
use Rattle.lines.specs.Lines.{byte_of}

-- all elements are bytes
abbrev pub Bytes : List ℕ → Type 0
Bytes l = (p : ℕ) → byte_at l p < 256

-- a number is read from its own bytes alone
abbrev pub Local : ℕ → (List ℕ → ℕ → ℕ) → Type 0
Local w read = (l m : List ℕ) (p : ℕ) → ((q : ℕ) → p ≤ q → q < p + w → byte_at l q ≡ byte_at m q) → read l p ≡ read m p

pub record Numeral (w : ℕ) (read : List ℕ → ℕ → ℕ) : Type 0 where
  pub local : Local w read
  -- a number is read where its bytes stand
  pub made : (l : List ℕ) (at n : ℕ) → n < 2 ^ (8 * w) → ((i : ℕ) → i < w → byte_at l (at + i) ≡ byte_of w n i) → read l at ≡ n
  -- from bytes one is read that has no more digits, and they are its bytes
  pub fits : (l : List ℕ) (at : ℕ) → Bytes l → read l at < 2 ^ (8 * w)
  pub byte : (l : List ℕ) (at i : ℕ) → Bytes l → i < w → byte_at l (at + i) ≡ byte_of w (read l at) i
