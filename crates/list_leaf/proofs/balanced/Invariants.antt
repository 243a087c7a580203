use Rattle.std.specs.Prelude.{◌≡◌}
use Rattle.logic.specs.Bounded.{any_below}
use Rattle.list_leaf.specs.Weights.{unfair_block}
use Rattle.list_leaf.proofs.balanced.Given as goal

abbrev pub invariant-loop-b : goal.invariant-loop-b
invariant-loop-b l = l.off ≡ any_below l.b (unfair_block l.fn.ps l.sums l.marks)
