use mathlib.Core.Path.{◌∙◌, refl}
use Rattle.report.proofs.description_part.Goals as goal

pub returns : goal.returns
returns c = c.span.ensures ∙ rw c.read2.ensures.0 refl
