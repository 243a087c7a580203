use Rattle.std.proofs.Math.Option.{some}
use Rattle.answers.specs.Answers.{numbered}
use mathlib.Core.Path.{sym, ◌∙◌, ap}
use Rattle.logic.specs.Refusals.{test_passes, test_refuses}
use Rattle.list_rows.specs.RowSteps.{cell_mark, cell_bad, cell_earlier}
use Rattle.list_rows.proofs.test_cell.Goals as goal

pub returns-then-is_mark : goal.returns-then-is_mark
returns-then-is_mark c = let g = c.args in
    sym (test_passes g.i 16 _ (sym (cell_mark g.marks g.ds.now g.k g.i g.c _ c.byte-j.ensures c.if-c-eq0.false
    _ c.is_mark.ensures c.if-is_mark.true)))

pub returns-in_default : goal.returns-in_default
returns-in_default c = let g = c.args in
    ap (λ z. some (numbered z)) c.at.ensures ∙ sym (test_refuses g.i 16 _ (sym (cell_bad g.marks g.ds.now g.k g.i g.c _ c.byte-j.ensures c.if-c-eq0.false
    _ c.is_mark.ensures c.if-is_mark.false _ c.look_up.ensures.0 c.in_default.is)))

pub returns : goal.returns
returns c = let g = c.args in
    sym (test_passes g.i 16 _ (sym (cell_earlier g.marks g.ds.now g.k g.i g.c _ c.byte-j.ensures c.if-c-eq0.false
    _ c.is_mark.ensures c.if-is_mark.false _ c.look_up.ensures.0 _ c.in-Some.is)))
