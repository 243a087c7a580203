use Prim.Native.Nat.{◌^◌}
use Rattle.logic.specs.Bounded.{all_below}
use Rattle.list_rows.specs.RowSteps.{cites_at, cite, rows_16, rows_17, rows_fine, test_false, test_true}
use mathlib.Core.Path.{◌≡◌, refl, sym, ◌∙◌, ap}
use Rattle.logic.specs.Tests.{so_and}
use Rattle.logic.specs.Refusals.{unless, refuse}
use mathlib.Core.Bool.{true}
use mathlib.Core.Option.{none}
use Rattle.std.proofs.lemmas.Result.{err_from_is_err_and}
use Rattle.labels.specs.Labels.{value_of}
use Rattle.list_rows.proofs.test_rows.Goals.{In_ok-test_cells}
use Rattle.list_rows.proofs.test_rows.Goals as goal

pub returns-then-not-rows_in_table : goal.returns-then-not-rows_in_table
returns-then-not-rows_in_table c = let g = c.args in
    rw (← c.up_to-k.ensures.0, c.at.ensures) (rows_16 g.marks g.cs.now g.ds.now c.up_to-k.result g.i (value_of g.x)
    (rw (sym c.rows_in_table.ensures ∙ c.if-not-rows_in_table.true) refl))

pub returns-in_err-test_cells : goal.returns-in_err-test_cells
returns-in_err-test_cells c = let g = c.args in
    let p = err_from_is_err_and c.from_residual.result c.from_residual.ensures.1 in
    let k = c.up_to-k.result in let e = c.in_err-test_cells.ensures in
    let f = test_false g.i (all_below (2 ^ k) (cites_at g.marks g.ds.now k g.i)) _ (sym e) in
    rw (p.1, p.2) (e ∙ ap (λ b. refuse g.i (unless b 16 none) none) f
    ∙ (rw (← c.up_to-k.ensures.0) (rows_16 g.marks g.cs.now g.ds.now k g.i (value_of g.x)
    (rw (sym c.rows_in_table.ensures ∙ c.if-not-rows_in_table.false, f) refl))))

-- the rows are of the table and the cells are fine
cited : (c : In_ok-test_cells) → let g = c.args in
    cite g.marks g.cs.now g.ds.now c.up_to-k.result g.i (value_of g.x) ≡ true
cited c = let i = c.args.i in
    so_and _ _ (sym c.rows_in_table.ensures ∙ c.if-not-rows_in_table.false)
    (test_true i _ (sym c.in_ok-test_cells.ensures))

pub returns-then-not-rows_named : goal.returns-then-not-rows_named
returns-then-not-rows_named c = let g = c.args in
    rw (← c.up_to-k.ensures.0, c.at-then-not-rows_named.ensures) (rows_17 g.marks g.cs.now g.ds.now c.up_to-k.result g.i (value_of g.x) (cited (goal.at.returns-then-not-rows_named c).In_ok-test_cells)
    (rw (sym c.rows_named.ensures ∙ c.if-not-rows_named.true) refl))

pub returns-then-not-rows_rise : goal.returns-then-not-rows_rise
returns-then-not-rows_rise c = let g = c.args in
    rw (← c.up_to-k.ensures.0, c.at-then-not-rows_rise.ensures) (rows_17 g.marks g.cs.now g.ds.now c.up_to-k.result g.i (value_of g.x) (cited (goal.at.returns-then-not-rows_rise c).In_ok-test_cells)
    (rw (
      sym c.rows_named.ensures ∙ c.if-not-rows_named.false,
      sym c.rows_rise.ensures ∙ c.if-not-rows_rise.true,
    ) refl))

pub returns : goal.returns
returns c = let g = c.args in
    rw (← c.up_to-k.ensures.0) (rows_fine g.marks g.cs.now g.ds.now c.up_to-k.result g.i (value_of g.x) (cited (goal.at.returns c).In_ok-test_cells)
    (rw (
      sym c.rows_named.ensures ∙ c.if-not-rows_named.false,
      sym c.rows_rise.ensures ∙ c.if-not-rows_rise.false,
    ) refl))
