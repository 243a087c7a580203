-- Records under a head (01, "Evidence"; FORMAT 4). That they are read back, and written again as they were read, is in proofs/Bundles.
use Prim.Native.Nat.{ℕ, ◌+◌, ◌*◌, ◌≤◌, ◌<◌}
use Rattle.std.specs.Prelude.{get_or}
use mathlib.Core.List.{List, [], ◌∷◌, ◌++◌, flatten}
use Rattle.std.proofs.Math.ListN.{length}
use Rattle.logic.specs.Lists.{tabulate}
use Rattle.evidence.specs.Evidence.{most_records, record_count, record_at}
use Rattle.laying.specs.Places.{before}
use Rattle.laying.specs.Numbers.{two}

-- where record i begins: behind the head, the pairs and the records before it
abbrev pub start : List (List ℕ) → ℕ → ℕ
start rs i = 2 + 4 * length rs + before rs i

abbrev pub pair_of : List (List ℕ) → ℕ → List ℕ
pair_of rs i = two (start rs i) ++ two (length (get_or rs i []))

abbrev pub pairs : List (List ℕ) → List (List ℕ)
pairs rs = tabulate (length rs) (pair_of rs)

-- the kind, the number of records, their pairs, and the records
unfoldable pub bundle : ℕ → List (List ℕ) → List ℕ
bundle kind rs = kind ∷ length rs ∷ (flatten (pairs rs) ++ flatten rs)

-- what the head and the widths of its pairs have room for
pub record Fits (rs : List (List ℕ)) : Type 0 where
  pub some_record : 1 ≤ length rs
  pub few_records : length rs ≤ most_records
  pub starts : (i : ℕ) → i < length rs → start rs i < 65536
  pub lengths : (i : ℕ) → i < length rs → length (get_or rs i []) < 65536

-- ---- written again as they were read
abbrev pub records_in : List ℕ → List (List ℕ)
records_in s = tabulate (record_count s) (record_at s)
