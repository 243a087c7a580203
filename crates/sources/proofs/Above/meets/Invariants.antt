use Prim.Native.Nat.{◌-◌, ◌*◌, ◌<◌}
use mathlib.Core.Path.{◌≡◌}
use mathlib.Core.Bool.{false, ◌&&◌}
use Rattle.logic.specs.Bounded.{any_below}
use Rattle.logic.specs.Sets.{has}
use Rattle.labels.specs.Labels.{value_of}
use Rattle.labels.specs.Words.{rest_at}
use Rattle.tables.specs.Tables.{fields_at}
use Rattle.sources.specs.Sources.{every_above}
use Rattle.sources.proofs.Above.meets.Given as goal

abbrev pub invariant-loop-f : goal.invariant-loop-f
invariant-loop-f l =
    (0 < l.f → l.rest ≡ rest_at (value_of l.x) (l.f - 1))
    × (any_below l.f (λ f'. has (value_of l.x) (2 * f') && every_above l.self.above l.self.l (fields_at l.self.cs.now f')) ≡ false)
