use Rattle.labels.specs.Blocks.{has_low, has_high}
use mathlib.Core.Path.{◌∙◌}
use native.Mathlib.Omega.{arith}
use Rattle.labels.proofs.holds.Goals as goal

pub returns-then-l-lt64 : goal.returns-then-l-lt64
returns-then-l-lt64 c = let g = c.args in c.has.ensures ∙ has_low _ 64 g.x.high g.x.low c.if-l-lt64.true

pub returns-else-l-lt64 : goal.returns-else-l-lt64
returns-else-l-lt64 c = let g = c.args in c.has-else-l-lt64.ensures ∙ has_high 64 g.x.high g.x.low _ (omega arith) c.if-l-lt64.false
