use Prim.Native.Nat.{◌+◌, ◌-◌}
use mathlib.Core.Path.{◌≡◌}
use Rattle.logic.specs.Sets.{set_of}
use Rattle.line_reader.specs.LineSteps.{pair_in}
use Rattle.line_reader.proofs.places.Line.row.Given as goal

abbrev pub invariant-loop-y : goal.invariant-loop-y
invariant-loop-y l = let s = l.self in l.out ≡ set_of (s.size - l.y) (λ j. pair_in s.bytes.now s.rows s.size l.r.0 l.x (l.y + j))
