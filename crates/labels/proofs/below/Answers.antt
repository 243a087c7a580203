use mathlib.Core.Path.{◌∙◌, ap}
use mathlib.Core.Bool.{◌&&◌}
use native.Mathlib.Omega.{arith}
use lib.Dec.{eqb}
use Rattle.logic.specs.Sets.{narrow}
use Rattle.labels.specs.Blocks.{narrow_low, narrow_high}
use Rattle.labels.proofs.below.Goals as goal

pub returns-then-n-lt64 : goal.returns-then-n-lt64
returns-then-n-lt64 c = ap (λ r. eqb c.args.x.high 0 && r) (c.is_below.ensures ∙ ap (narrow c.args.x.low) c.from.ensures) ∙ narrow_low 64 c.args.x.high c.args.x.low _ (omega arith) (omega arith)

pub returns-else-n-lt64 : goal.returns-else-n-lt64
returns-else-n-lt64 c = c.is_below-else-n-lt64.ensures ∙ ap (narrow c.args.x.high) c.from-else-n-lt64.ensures ∙ narrow_high 64 c.args.x.high c.args.x.low _ (omega arith) (omega arith)
