use Rattle.std.specs.Prelude.{◌≡◌}
use Rattle.logic.specs.Bounded.{any_below}
use Rattle.list_leaf.specs.Weights.{unfair_at}
use Rattle.list_leaf.proofs.block_unfair.Given as goal

abbrev pub invariant-loop-i : goal.invariant-loop-i
invariant-loop-i l = l.off ≡ any_below l.i (unfair_at l.low l.high l.sums l.marks l.at)
