-- Tests joined: one that fails lets the whole fail, and one asked twice is asked once.
use Rattle.std.specs.Prelude.{Bool, true, false, ◌&&◌, ◌≡◌}
use Rattle.std.proofs.Common.{refl}

pub first_off : (a b c : Bool) → b ≡ false → (a && (b && c)) ≡ false
first_off true b c e = rw e refl
first_off false b c e = refl

pub both_off : (a b c : Bool) → c ≡ false → (a && (b && c)) ≡ false
both_off true true c e = e
both_off true false c e = refl
both_off false b c e = refl

pub twice : (a b : Bool) → (a && (b && b)) ≡ (a && b)
twice true true = refl
twice true false = refl
twice false b = refl
