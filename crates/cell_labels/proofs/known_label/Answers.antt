use Rattle.cell_labels.specs.CellRows.{mask_at, label_at, row_told, gathered_is}
use Rattle.cell_labels.specs.CellLaws.{puts_none, puts_more, puts_done}
use Rattle.labels.specs.Labels.{value_of}
use Rattle.logic.specs.Sets.{has}
use lib.Dec.{eqb}
use native.Mathlib.Omega.{arith}
use Rattle.cell_labels.proofs.known_label.Goals as goal

pub loop-i-init : goal.loop-i-init
loop-i-init c = puts_none _ _

pub loop-i-preserved : goal.loop-i-preserved
loop-i-preserved c = let v = c.loop-i.invariant in
    let e = c.args in let i = c.loop-i.i in
    puts_more (value_of c.only-out.result) (value_of c.loop-i.out) i _ v _
    (row_told (value_of c.loop-i.out) (value_of c.with_row-out.result) _ _ (has (label_at e.shown.now i)) (eqb (mask_at
    e.against.now i)) _ _ c.has.ensures c.meet.ensures
    c.with_row-out.ensures)

pub returns : goal.returns
returns c = let e = c.args in
    gathered_is (has e.roles) e.own.now e.shown.now e.against.now e.c
    (value_of c.only-out.result) (value_of c.loop-i.out) c.only-out.ensures
    (puts_done (value_of c.only-out.result) (value_of c.loop-i.out) c.loop-i.i _ c.loop-i.invariant 6 (omega arith) (omega arith))
