use Rattle.edges.specs.Unions.{union_none, union_more}
use Rattle.edges.proofs.upward.Goals as goal

pub loop-r-init : goal.loop-r-init
loop-r-init c = union_none _

pub loop-r-preserved : goal.loop-r-preserved
loop-r-preserved c = union_more _ c.loop-r.r _ c.loop-r.invariant _ c.above_if-up.ensures
