use mathlib.Core.Path.{◌∙◌, refl}
use Rattle.parts.proofs.part.Goals as goal

pub returns : goal.returns
returns c = c.span.ensures ∙ rw (c.read2.ensures.0, c.read2-2.ensures.0) refl
