use Prim.Native.Nat.{ℕ, ◌<◌}
use mathlib.Core.Path.{◌≡◌}
use Rattle.std.specs.Prelude.{Bool}
use Rattle.logic.specs.Sets.{has}
use Rattle.logic.specs.Bounded.{any_below}
use Rattle.fillers.proofs.targets.some_place.Given as goal

abbrev pub invariant-loop-j : goal.invariant-loop-j
invariant-loop-j g l = (p : ℕ → Bool) → ((j w : ℕ) → j < 32 → goal.F-post g l.found j w → has w 0 ≡ p j) → has l.out 0 ≡ any_below l.j p
