-- Labels have room (FORMAT 4).
use Rattle.std.specs.Prelude.{ℕ, ◌*◌, ◌<◌, ◌≤◌}
use Rattle.std.proofs.Common.{arith, lt-ltb, le-ltb}
use Rattle.std.proofs.Math.Decide.{dec_le}
use Rattle.labels.specs.Labels.{most_entries, most_narrow, wide, label_bytes, bytes_wide, bytes_narrow}

-- the literals of a table have room in the bytes of its labels
pub literals_fit : (n : ℕ) → n ≤ most_entries → 2 * n ≤ 8 * label_bytes (wide n)
literals_fit n h = elim (dec_le n most_narrow) [
  | yes q ↦ (let z = bytes_narrow (wide n) (le-ltb most_narrow n q) in omega arith)
  | no q ↦ (let p : most_narrow < n = omega arith in let z = bytes_wide (wide n) (lt-ltb most_narrow n p) in omega arith)
]
