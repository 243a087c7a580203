use mathlib.Core.Path.{◌∙◌}
use Rattle.labels.specs.Labels.{value_of}
use Rattle.evidence.specs.Evidence.{label_of}
use Rattle.fillers.specs.FillerSteps.{least_read, uncounted_read}
use Rattle.fillers.proofs.least_at.Goals as goal

pub returns-in-AtLeast : goal.returns-in-AtLeast
returns-in-AtLeast c = let g = c.args in let t = g.t.now in
    c.least_holds.ensures ∙ least_read g.cs.now (label_of t.s.layout t.s.bytes.now) (value_of g.x) t.es.now g.e.0 _ _ c.concept_at.ensures.0 c.in-AtLeast.is

pub returns-in_default : goal.returns-in_default
returns-in_default c = let g = c.args in let t = g.t.now in
    uncounted_read g.cs.now (label_of t.s.layout t.s.bytes.now) (value_of g.x) t.es.now g.e.0 _ c.concept_at.ensures.0 c.in_default.not-AtLeast
