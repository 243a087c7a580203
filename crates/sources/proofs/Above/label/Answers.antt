use Rattle.sources.specs.Sources.{marked_none, marked_more}
use mathlib.Core.Path.{◌∙◌}
use Rattle.sources.proofs.Above.label.Goals as goal

pub loop-f-init : goal.loop-f-init
loop-f-init c = c.empty-out.ensures ∙ marked_none _

pub loop-f-preserved : goal.loop-f-preserved
loop-f-preserved c = marked_more _ c.loop-f.f _ c.loop-f.invariant _ c.put-out.ensures
