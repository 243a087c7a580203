use Prim.Native.Nat.{◌+◌, ◌-◌, ◌*◌, ◌≤◌}
use mathlib.Core.Path.{◌≡◌}
use lib.ListN.{length}
use Rattle.parts.specs.Pairs.{fills, fills_from}
use Rattle.parts.proofs.pairs_fill.Given as goal

abbrev pub invariant-loop-i : goal.invariant-loop-i
invariant-loop-i l = (l.at + 4 * l.n ≤ length l.s) × (l.next ≤ 65535 + 65535 * l.i) × (fills_from l.s l.at (l.n - l.i) l.i l.next ≡ fills l.s l.at l.count l.first)
