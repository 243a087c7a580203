use Rattle.cell_labels.specs.CellRows.{row_within, row_reached, row_neither}
use Rattle.cell_labels.specs.CellLaws.{join_puts, puts_one}
use Rattle.labels.specs.Labels.{value_of, label_few}
use Rattle.logic.specs.Sets.{has}
use lib.Dec.{eqb}
use borrow.Author.Rules.{rules}
use Rattle.cell_labels.proofs.with_row.Goals as goal

pub returns-then-within : goal.returns-then-within
returns-then-within c = let g = c.args in
    row_within (value_of g.x) (value_of c.join.result) g.within g.reached _ (eqb g.against) c.if-within.true
    (join_puts _ _ _ (label_few g.shown (search rules) (search rules)) c.join.ensures)

pub returns-then-reached : goal.returns-then-reached
returns-then-reached c = let g = c.args in
    row_reached (value_of g.x) (value_of c.put.result) g.within g.reached (has (value_of g.shown)) _
    c.if-within.false c.if-reached.true
    (puts_one (value_of g.x) g.against (value_of c.put.result) c.put.ensures)

pub returns : goal.returns
returns c = let g = c.args in
    row_neither (value_of g.x) g.within g.reached (has (value_of g.shown)) (eqb g.against) c.if-within.false
    c.if-reached.false
