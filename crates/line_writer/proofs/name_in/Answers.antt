use Rattle.labels.specs.Labels.{value_of}
use Rattle.line_writer.specs.WriteSteps.{name_read}
use Rattle.line_writer.proofs.name_in.Goals as goal

pub returns : goal.returns
returns c = let p = c.args in name_read p.cs.now (value_of p.x) p.e.0 _ _ c.byte.ensures c.holds.ensures
