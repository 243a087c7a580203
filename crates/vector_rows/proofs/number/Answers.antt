use Rattle.std.proofs.Common.{◌∙◌, sym, arith}
use Rattle.vector_rows.specs.Rows.{number_more, number_end}
use Rattle.vector_rows.proofs.number.Goals as goal

pub loop-c-preserved : goal.loop-c-preserved
loop-c-preserved c = (omega arith, rw c.from.ensures (sym (number_more _ _ _ c.loop-c-test.true) ∙ c.loop-c.invariant.1))

pub returns : goal.returns
returns c = sym (number_end _ _ _ c.loop-c-test.false) ∙ c.loop-c.invariant.1
