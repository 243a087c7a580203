use mathlib.Core.Path.{◌∙◌, ap}
use Rattle.shq_c.specs.Packed.{packed}
use Rattle.shq_c.proofs.shq_claim.Goals as goal

pub returns : goal.returns
returns c = c.packed.ensures ∙ ap packed c.check_claim.ensures
