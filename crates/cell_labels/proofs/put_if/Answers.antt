use Rattle.cell_labels.specs.CellLaws.{put_on, put_off}
use Rattle.labels.specs.Labels.{value_of}
use Rattle.cell_labels.proofs.put_if.Goals as goal

pub returns-then-asked : goal.returns-then-asked
returns-then-asked c = let g = c.args in put_on (value_of g.x) g.l (value_of c.put.result) g.asked c.if-asked.true c.put.ensures

pub returns-else-asked : goal.returns-else-asked
returns-else-asked c = let g = c.args in put_off (value_of g.x) g.l g.asked c.if-asked.false
