use mathlib.Core.Path.{◌∙◌}
use Rattle.logic.specs.Sets.{has}
use Rattle.evidence.specs.Evidence.{label_of}
use Rattle.roles.specs.Disjoint.{compatible_by}
use Rattle.cell_labels.specs.CellRows.{gathered_by}
use Rattle.list_cells.specs.CellAnswers.{by_mark, by_none, by_cite}
use Rattle.list_cells.proofs.CellTest.cell_ok.Goals as goal

pub returns-then-is_mark : goal.returns-then-is_mark
returns-then-is_mark c = let g = c.args in let o = g.self.now in let y = g.by.now in
    c.mark_ok.ensures ∙ by_mark o.s.layout.marks (label_of o.s.layout o.s.bytes.now) g.cell _ c.is_mark.ensures
    (compatible_by o.m.now g.roles) (gathered_by (has g.roles) y.own y.shown y.against g.c) c.if-is_mark.true

pub returns-in_default : goal.returns-in_default
returns-in_default c = let g = c.args in let o = g.self.now in let y = g.by.now in
    by_none o.s.layout.marks (label_of o.s.layout o.s.bytes.now) g.cell _ c.is_mark.ensures c.if-is_mark.false
    _ _ c.cell_answer.ensures.0 c.in_default.is

pub returns : goal.returns
returns c = let g = c.args in let o = g.self.now in let y = g.by.now in
    c.lies_within.ensures ∙ by_cite o.s.layout.marks (label_of o.s.layout o.s.bytes.now) g.cell _ c.is_mark.ensures
    c.if-is_mark.false _ _ c.cell_answer.ensures.0 _ _ c.in-Some.is c.label-shut_by.ensures
