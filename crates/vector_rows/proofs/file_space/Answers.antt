use Prim.Native.Nat.{ℕ}
use mathlib.Core.Path.{◌≡◌, refl, sym}
use lib.ListN.{length, replicate, length-replicate}
use Rattle.vector_rows.proofs.file_space.Goals as goal

-- for any size, so that no list is written out
zeros : (n : ℕ) → n ≡ length {0} {A = ℕ} (replicate {0} {A = ℕ} n 0)
zeros n = sym (length-replicate n 0)

pub returns : goal.returns
returns c = record { zeros = refl; size = zeros 1048576 }
