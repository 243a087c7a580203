use Rattle.std.proofs.Common.{◌≤◌, ◌+◌, ◌-◌, length, drop}
use Rattle.vector_rows.specs.Parts.{parts_of, Steps}
use Rattle.vector_rows.proofs.run_parts.Given as goal

abbrev pub invariant-loop-at : goal.invariant-loop-at
invariant-loop-at g l = goal.F-IsAlwaysCallable g l.step × (l.at ≤ length l.all + 1)
    × ((r : _) → Steps g.F.FnMut l.step (parts_of l.mark (drop l.at l.all)) r → Steps g.F.FnMut l.fn.step (parts_of l.mark l.all) r)

abbrev pub decreases-loop-at : goal.decreases-loop-at
decreases-loop-at g l = length l.all + 1 - l.at
