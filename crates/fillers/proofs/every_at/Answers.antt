use mathlib.Core.Path.{◌∙◌}
use Rattle.labels.specs.Labels.{value_of}
use Rattle.evidence.specs.Evidence.{label_of}
use Rattle.fillers.specs.FillerSteps.{every_holds, every_read, other_read}
use Rattle.fillers.proofs.every_at.Goals as goal

pub returns-in-Every : goal.returns-in-Every
returns-in-Every c = let g = c.args in let t = g.t.now in
    c.every_holds.ensures ∙ every_read g.cs.now (every_holds (label_of t.s.layout t.s.bytes.now) t.es.now (value_of g.x) g.on g.e.0) g.e.0 _ _ c.concept_at.ensures.0 c.in-Every.is

pub returns-in_default : goal.returns-in_default
returns-in_default c = let g = c.args in let t = g.t.now in
    other_read g.cs.now (every_holds (label_of t.s.layout t.s.bytes.now) t.es.now (value_of g.x) g.on g.e.0) g.e.0 _ c.concept_at.ensures.0 c.in_default.not-Every
