use Rattle.std.proofs.Common.{sym, ◌∙◌, arith}
use Rattle.logic.specs.Bounded.{all_none, all_stop, all_more, all_done}
use Rattle.line_reader.proofs.pairs.row_closed.Goals as goal

pub loop-y-init : goal.loop-y-init
loop-y-init c = all_none _

pub returns-then-not-reaches_on : goal.returns-then-not-reaches_on
returns-then-not-reaches_on c = sym (all_stop _ c.loop-y.y _ c.loop-y-test.true (sym c.reaches_on.ensures ∙ c.if-not-reaches_on.true))

pub loop-y-preserved : goal.loop-y-preserved
loop-y-preserved c = all_more _ c.loop-y.y c.loop-y.invariant (sym c.reaches_on.ensures ∙ c.if-not-reaches_on.false)

pub returns : goal.returns
returns c = sym (all_done _ c.loop-y.y _ (omega arith) (omega arith) c.loop-y.invariant)
