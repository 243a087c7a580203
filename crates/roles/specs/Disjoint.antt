-- The records of roles that never share a filler (02, job 5), as masks: a set of roles is compatible if no record lies within it.
use Rattle.std.specs.Prelude.{ℕ, ◌+◌, ◌/◌, ◌^◌, ◌≤◌, ◌<◌, ◌≡◌, refl, Bool, true, ◌&&◌, List, ltb, length, get_or}
use Rattle.std.proofs.Common.{◌∙◌, inl, inr, arith, lt-ltb}
use Rattle.std.proofs.Math.Path.{ap}
use Rattle.std.proofs.Math.Bool.{not}
use Rattle.std.proofs.Math.Option.{Option}
use Rattle.std.specs.Int.Bits.{bit_or}
use Rattle.logic.specs.Tests.{not_and, same_test, so_and, and_l, and_r}
use Rattle.logic.specs.Bounded.{all_below, all_cong}
use Rattle.logic.specs.Sums.{only}
use Rattle.logic.specs.Sets.{has, within}
use Rattle.logic.specs.SetLaws.{within↔, single↔, or_members}
use Rattle.parts.specs.Numbers.{up_to, up_to_all}
use Rattle.description.specs.Descriptions.{compatible}
use Rattle.tables.specs.Tables.{records_in, disjoint_at, describe}

-- the number of records of the part ps, at most 16
abbrev pub disjoint_count : List ℕ → ℕ
disjoint_count ps = up_to 16 (length ps / 2)

-- the set of one role, of none if it is past the masks
abbrev pub role_bit : ℕ → ℕ
role_bit r = only (ltb r 16) (2 ^ r)

-- the two roles of record i
abbrev pub pair_mask : List ℕ → ℕ → ℕ
pair_mask ps i = bit_or (role_bit (disjoint_at ps i).one) (role_bit (disjoint_at ps i).other)

-- the masks of the records stand in `a` from 32 on, their number at 48
abbrev pub records_by : List ℕ → ℕ
records_by a = up_to 16 (get_or a 48 0)

-- the roles m hold none of these records
abbrev pub compatible_by : List ℕ → ℕ → Bool
compatible_by a m = all_below (records_by a) (λ i. not (within (get_or a (32 + i) 0) m))

pub compatible_all : (a : List ℕ) (m : ℕ) → records_by a ≡ 0 → compatible_by a m ≡ true
unfolding all_below
compatible_all a m e = rw e refl

-- ---- it is the test of the description
both_within : (r s m : ℕ) → r < 16 → s < 16 → within (bit_or (role_bit r) (role_bit s)) m ≡ (has m r && has m s)
both_within r s m h k = rw (lt-ltb r 16 h, lt-ltb s 16 k) (same_test _ _
    (λ u. let w = (within↔ (bit_or (2 ^ r) (2 ^ s)) m).0 u in so_and _ _
    (w r ((or_members (2 ^ r) (2 ^ s) r).1 (inl ((single↔ r r).1 refl)))) (w s ((or_members (2 ^ r) (2 ^ s) s).1 (inr ((single↔ s s).1 refl)))))
    (λ u. (within↔ (bit_or (2 ^ r) (2 ^ s)) m).1 (λ i v. elim ((or_members (2 ^ r) (2 ^ s) i).0 v) [
      | inl e ↦ rw ((single↔ r i).0 e) (and_l (has m r) (has m s) u)
      | inr e ↦ rw ((single↔ s i).0 e) (and_r (has m r) (has m s) u)
    ])))

-- where all records name roles below 16
module _ (rs cs qs : List ℕ) (p : Option (List ℕ)) (few : length (records_in p) / 2 ≤ 16)
    (inside : (i : ℕ) → i < length (records_in p) / 2 → ((disjoint_at (records_in p) i).one < 16) × ((disjoint_at (records_in p) i).other < 16)) where
  pub compatible_is : (a : List ℕ) (m : ℕ) → get_or a 48 0 ≡ disjoint_count (records_in p) → ((i : ℕ) → i < 16 → get_or a (32 + i) 0 ≡ pair_mask (records_in p) i)
      → compatible_by a m ≡ compatible (describe rs cs qs p) (has m)
  unfolding compatible
  compatible_is a m count masks = rw (count, up_to_all 16 (length (records_in p) / 2) few, up_to_all 16 (length (records_in p) / 2) few)
      (all_cong (length (records_in p) / 2) _ _ (λ i h. let w = inside i h in
      ap not (ap (λ x. within x m) (masks i (omega (arith, few))) ∙ both_within (disjoint_at (records_in p) i).one (disjoint_at (records_in p) i).other m w.0 w.1)
      ∙ not_and (has m (disjoint_at (records_in p) i).one) (has m (disjoint_at (records_in p) i).other)))
