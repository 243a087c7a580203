use mathlib.Core.Path.{refl, ◌∙◌}
use native.Mathlib.Omega.{arith}
use Rattle.laying.specs.Laying.{laid_fits}
use Rattle.report.proofs.lay.Goals as goal

pub returns : goal.returns
returns c = (c.copy_bytes.ensures ∙ laid_fits c.args.out.now c.args.at c.args.text.now (omega arith), refl)
