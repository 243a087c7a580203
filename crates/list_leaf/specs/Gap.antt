-- The difference of two words as an integer: exact, also at zero and below.
use Rattle.std.specs.Prelude.{ℕ, zero, suc, ◌-◌, ◌^◌, ◌<◌, ◌≡◌, refl, Bool, true, false, cond, ltb, pos, negsuc, ◌-ℤ◌}
use Rattle.std.proofs.Common.{◌∙◌, ap, ap₂, arith, to_z, SFits}
use Rattle.std.proofs.Math.Dec.{leb-suc-zero}
use Rattle.std.proofs.Math.IntN.{sub_ℕ}
use Rattle.std.specs.Int.Signed.{mag}
use Rattle.std.specs.Int.{w32}
use Rattle.std.proofs.lemmas.Int.{to_z_pos}

module _ (a b : ℕ) (p : a < 1073741824) (q : b < 1073741824) where
  pub gap_is : to_z w32 a -ℤ to_z w32 b ≡ sub_ℕ a b
  gap_is = ap₂ ◌-ℤ◌ (to_z_pos w32 a (omega arith)) (to_z_pos w32 b (omega arith)) ∙ minus a b
    where
      minus : (a b : ℕ) → pos a -ℤ pos b ≡ sub_ℕ a b
      minus a zero = rw (leb-suc-zero a) (ap pos (omega arith))
      minus a (suc b) = refl

  pub size_fits : SFits w32 (sub_ℕ a b)
  size_fits = record { sfits = go (ltb a b) }
    where
      go : (t : Bool) → mag (cond t (negsuc (b - suc a)) (pos (a - b))) < 2 ^ 31
      go true = omega arith
      go false = omega arith

  pub gap_fits : SFits w32 (to_z w32 a -ℤ to_z w32 b)
  gap_fits = rw gap_is size_fits
