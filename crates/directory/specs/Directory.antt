-- The pairs at the head of a description, the parts that they name, and test 1 (01, "The description"; 02, job 5; FORMAT 2, 3).
use Rattle.std.specs.Prelude.{ℕ, ◌*◌, ◌≡◌, refl, Bool, true, false, cond, List, [], eqb}
use Rattle.std.proofs.Math.Option.{Option, none, some}
use Rattle.parts.specs.Pairs.{offset_at, part_at, fills}
use Rattle.tables.specs.Tables.{records_in, is_there}

-- whether there is a fourth pair: the first offset is 16
abbrev pub four : List ℕ → Bool
four d = eqb (offset_at d 0 0) 16

abbrev pub pair_count : List ℕ → ℕ
pair_count d = cond (four d) 4 3

-- three pairs at 0 fill the description from 12, or four from 16
abbrev pub directory_test : List ℕ → Bool
directory_test d = fills d 0 (pair_count d) (4 * pair_count d)

abbrev pub roles_part : List ℕ → List ℕ
roles_part d = part_at d 0 0

abbrev pub concepts_part : List ℕ → List ℕ
concepts_part d = part_at d 0 1

abbrev pub query_part : List ℕ → List ℕ
query_part d = part_at d 0 2

-- the fourth part, of roles that never share a filler
abbrev pub disjoint_part : List ℕ → Option (List ℕ)
disjoint_part d = cond (four d) (some (part_at d 0 3)) none

-- ---- laws for the code
-- the pairs are counted as the code counts them, and the fourth part is the slice that it reads
pub directory_read : (d : List ℕ) (n k : ℕ) → n ≡ pair_count d → k ≡ 4 * n → fills d 0 n k ≡ directory_test d
directory_read d n k p q = rw (q, p) refl

pub part_there : (d : List ℕ) → four d ≡ true → part_at d 0 3 ≡ records_in (disjoint_part d)
part_there d e = rw e refl

pub no_part : (d : List ℕ) → four d ≡ false → [] ≡ records_in (disjoint_part d)
no_part d e = rw e refl

pub four_there : (d : List ℕ) → is_there (disjoint_part d) ≡ four d
four_there d = go (four d)
  where
    go : (b : Bool) → is_there (cond b (some (part_at d 0 3)) none) ≡ b
    go true = refl
    go false = refl
