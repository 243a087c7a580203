use mathlib.Core.Path.{◌∙◌}
use Rattle.sources.specs.Sources.{sources_off}
use Rattle.sources.proofs.sources_at.Goals as goal

pub returns-else-g-above : goal.returns-else-g-above
returns-else-g-above c = c.empty.ensures ∙ sources_off c.args.m.now c.args.cs.now c.args.e.0 _ c.fields_at-g.ensures.0 c.if-g-above.false
