use mathlib.Core.Path.{◌∙◌, ap}
use Rattle.shq_c.specs.Packed.{packed}
use Rattle.shq_c.proofs.shq_write.Goals as goal

pub returns : goal.returns
returns c = (c.packed.ensures ∙ ap packed c.write_interpretation.ensures.answer, c.write_interpretation.ensures.bytes)
