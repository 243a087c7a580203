use mathlib.Core.Path.{◌∙◌, ap}
use Rattle.shq_c.specs.Packed.{packed}
use Rattle.shq_c.proofs.shq_check.Goals as goal

pub returns : goal.returns
returns c = c.of_verdict.ensures ∙ ap packed c.check_evidence.ensures
