use mathlib.Core.Path.{refl}
use native.Mathlib.Omega.{arith}
use Rattle.parts.specs.Filling.{filled_none, filled_more}
use Rattle.line_reader.proofs.pairs.lay_rows.Goals as goal

pub loop-x-init : goal.loop-x-init
loop-x-init c = λ e. filled_none _ _ _ e

pub loop-x-preserved : goal.loop-x-preserved
loop-x-preserved c = λ e. let few = c.args.l.now.few in filled_more _ (omega arith) c.row.ensures (c.loop-x.invariant e)

pub returns : goal.returns
returns c = λ e x h. (c.loop-x.invariant e).at x (omega arith)
