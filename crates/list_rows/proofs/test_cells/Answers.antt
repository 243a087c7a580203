use Prim.Native.Nat.{◌^◌}
use mathlib.Core.Path.{◌≡◌, sym}
use native.Mathlib.Omega.{arith}
use Rattle.std.proofs.lemmas.Result.{err_from_is_err_and}
use Rattle.logic.specs.Bounded.{all_none, all_stop, all_more, all_done}
use Rattle.logic.specs.Refusals.{test_passes}
use Rattle.list_rows.specs.RowSteps.{count_few, test_false, test_true, test_same}
use Rattle.list_rows.proofs.test_cells.Goals as goal

pub loop-c-init : goal.loop-c-init
loop-c-init c = all_none _

pub test_cell-requires : goal.test_cell-requires
test_cell-requires c = (c.requires, omega (arith, c.cell_count-c-end.ensures.1))

pub returns-in_err-test_cell : goal.returns-in_err-test_cell
returns-in_err-test_cell c = let p = err_from_is_err_and c.from_residual.result c.from_residual.ensures.1 in
    let e = c.in_err-test_cell.ensures in let f = test_false _ _ _ (sym e) in
    let n : c.cell_count-c-end.result ≡ 2 ^ c.args.k = count_few _ _ c.requires c.cell_count-c-end.ensures.0 in
    rw (p.1, p.2) (test_same _ _ _ _ e f (all_stop _ c.loop-c.c _ (omega arith) f))

pub loop-c-preserved : goal.loop-c-preserved
loop-c-preserved c = all_more _ c.loop-c.c c.loop-c.invariant (test_true _ _ (sym c.in_ok-test_cell.ensures))

pub returns : goal.returns
returns c = let n : c.cell_count-c-end.result ≡ 2 ^ c.args.k = count_few _ _ c.requires c.cell_count-c-end.ensures.0 in
    sym (test_passes _ 16 _ (all_done _ c.loop-c.c _ (omega arith) (omega arith) c.loop-c.invariant))
