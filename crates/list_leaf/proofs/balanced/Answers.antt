use Rattle.std.proofs.Common.{rules, sym}
use Rattle.logic.specs.Bounded.{any_none}
use Rattle.list_leaf.specs.Weights.{unfair_block}
use Rattle.list_leaf.specs.WeightSteps.{any_next}
use Rattle.list_leaf.proofs.balanced.Goals as goal

pub loop-b-init : goal.loop-b-init
loop-b-init c = sym (any_none _)

pub loop-b-preserved : goal.loop-b-preserved
loop-b-preserved c = let v = c.loop-b in let a = c.args in
    any_next (unfair_block a.ps a.sums a.marks.now) v.b v.off c.block_unfair-off.result v.invariant (search rules)
