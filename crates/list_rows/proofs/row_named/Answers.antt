use mathlib.Core.Path.{sym, ◌∙◌}
use Rattle.labels.specs.Labels.{value_of}
use Rattle.list_rows.specs.RowSteps.{named_not, named_row}
use Rattle.list_rows.proofs.row_named.Goals as goal

pub returns-then-holds : goal.returns-then-holds
returns-then-holds c = let g = c.args in
    c.is_some.ensures ∙ named_row g.cs.now (value_of g.x) g.ds.now g.j _ c.byte-l.ensures (sym c.holds.ensures ∙ c.if-holds.true) _ c.row_of.ensures.0

pub returns-else-holds : goal.returns-else-holds
returns-else-holds c = let g = c.args in
    c.if-holds.false ∙ named_not g.cs.now (value_of g.x) g.ds.now g.j _ c.byte-l.ensures (sym c.holds.ensures ∙ c.if-holds.false)
