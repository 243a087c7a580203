use Rattle.std.proofs.Common.{sym}
use Rattle.logic.specs.Bounded.{any_none}
use Rattle.list_leaf.specs.Weights.{unfair_at}
use Rattle.list_leaf.specs.WeightSteps.{any_next}
use Rattle.list_leaf.proofs.block_unfair.Goals as goal

pub loop-i-init : goal.loop-i-init
loop-i-init c = sym (any_none _)

pub loop-i-preserved : goal.loop-i-preserved
loop-i-preserved c = let v = c.loop-i in let a = c.args in
    any_next (unfair_at a.low a.high a.sums a.marks.now a.at) v.i v.off c.unfair-off.result v.invariant c.unfair-off.ensures
