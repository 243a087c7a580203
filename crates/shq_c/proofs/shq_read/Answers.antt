use mathlib.Core.Path.{◌∙◌, ap}
use Rattle.shq_c.specs.Packed.{packed}
use Rattle.shq_c.proofs.shq_read.Goals as goal

pub returns : goal.returns
returns c = c.packed.ensures ∙ ap packed c.read_interpretation.ensures
