use Rattle.cell_labels.specs.CellLaws.{add_on, add_off}
use Rattle.labels.specs.Labels.{value_of, label_few}
use borrow.Author.Rules.{rules}
use Rattle.cell_labels.proofs.add_if.Goals as goal

pub returns-then-asked : goal.returns-then-asked
returns-then-asked c = let g = c.args in
    add_on (value_of g.x) _ (value_of c.join.result) g.asked c.if-asked.true (label_few g.y (search rules)
    (search rules)) c.join.ensures

pub returns-else-asked : goal.returns-else-asked
returns-else-asked c = let g = c.args in add_off (value_of g.x) (value_of g.y) g.asked c.if-asked.false
