use Rattle.list_steps.specs.StepSteps.{in_label_lem}
use Rattle.labels.specs.Labels.{value_of}
use Rattle.list_steps.proofs.in_label.Goals as goal

pub returns : goal.returns
returns c = let g = c.args in in_label_lem (value_of g.x) g.l _ c.holds-held.ensures
