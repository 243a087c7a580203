use Prim.Native.Nat.{◌+◌, ◌-◌}
use mathlib.Core.Path.{◌∙◌, sym, ap}
use Rattle.std.specs.Prelude.{Some}
use lib.ListN.{take, drop}
use native.Mathlib.Omega.{arith}
use Rattle.list_leaf.specs.Leaf.{limits_held, marked}
use Rattle.list_leaf.specs.OpenLaws.{among_made}
use Rattle.list_tree.specs.TreeLaws.{closed_off, closed_leaf}
use Rattle.list_tree.specs.HeldLaws.{cells_told, closing_many, closing_cut, closing_told}
use Rattle.list_tree.proofs.tree_closes.Goals as goal

pub returns-then-k-gt6 : goal.returns-then-k-gt6
returns-then-k-gt6 c = let a = c.args in closing_many a.rows.now.held a.ds.now a.rows.now.count (omega arith)

pub overflow_sub-start : goal.overflow_sub-start
overflow_sub-start c = let e = cells_told c.args.rows.now.count c.cell_count.result (omega arith) c.cell_count.ensures.0 in omega arith

pub returns-then-ds-start : goal.returns-then-ds-start
returns-then-ds-start c = let a = c.args in let n = c.cell_count in let e = cells_told a.rows.now.count n.result (omega arith) n.ensures.0 in closing_cut a.rows.now.held a.ds.now a.rows.now.count (omega arith) (omega arith)

pub fit_node-requires : goal.fit_node-requires
fit_node-requires c = let o = c.open_cells-marks in let l = c.of_rows-way in let b = c.cell_count in let a = c.args in (omega arith, omega arith, omega arith, among_made a.rows.now.count (take (2 + a.rows.now.count + (b.result - 1) - (2 + a.rows.now.count)) (drop (2 + a.rows.now.count) a.ds.now)) o.result o.ensures.0 o.ensures.1)

pub halves_close-requires : goal.halves_close-requires
halves_close-requires c = let o = c.open_cells-marks in
    let l = c.of_rows-way in
    let b = c.cell_count in
    let a = c.args in (
      omega arith,
      l.ensures.1,
      l.ensures.0,
      among_made a.rows.now.count (take (2 + a.rows.now.count + (b.result - 1) - (2 + a.rows.now.count)) (drop (2 + a.rows.now.count) a.ds.now)) o.result o.ensures.0
          o.ensures.1,
      sym (ap Some c.in-Some-Splitting.field-0-is) ∙ sym c.in-Some-Splitting.is ∙ (rw l.ensures.1 at c.fit_node.ensures.0),
    )

pub returns-in-None : goal.returns-in-None
returns-in-None c = let o = c.open_cells-marks in
    let l = c.of_rows-way in
    let b = c.cell_count in
    let a = c.args in
    let e = cells_told a.rows.now.count b.result (omega arith) b.ensures.0 in
    closing_told a.rows.now.held a.ds.now a.rows.now.count l.result.limits _ _ (omega arith) (omega arith) (omega arith) l.ensures.2 o.result o.ensures.0 o.ensures.1
    (closed_off a.ds.now a.rows.now.count (marked o.result) a.rows.now.count (limits_held a.rows.now.count l.result.limits a.rows.now.count) (2 + a.rows.now.count + (b.result - 1)) 8 (sym c.in-None.is ∙ (rw l.ensures.1 at c.fit_node.ensures.0)))

pub returns-in-Some-Closing : goal.returns-in-Some-Closing
returns-in-Some-Closing c = let o = c.open_cells-marks in
    let l = c.of_rows-way in
    let b = c.cell_count in
    let a = c.args in
    let e = cells_told a.rows.now.count b.result (omega arith) b.ensures.0 in
    closing_told a.rows.now.held a.ds.now a.rows.now.count l.result.limits _ _ (omega arith) (omega arith) (omega arith) l.ensures.2 o.result o.ensures.0 o.ensures.1
    (closed_leaf a.ds.now a.rows.now.count (marked o.result) a.rows.now.count (limits_held a.rows.now.count l.result.limits a.rows.now.count) (2 + a.rows.now.count + (b.result - 1)) 8 _ (sym (ap Some c.in-Some-Closing.field-0-is) ∙ sym c.in-Some-Closing.is ∙ (rw l.ensures.1 at c.fit_node.ensures.0)))

pub returns-in-Some-Splitting : goal.returns-in-Some-Splitting
returns-in-Some-Splitting c = let o = c.open_cells-marks in
    let l = c.of_rows-way in
    let b = c.cell_count in
    let a = c.args in
    let e = cells_told a.rows.now.count b.result (omega arith) b.ensures.0 in
    c.is_some.ensures ∙ closing_told a.rows.now.held a.ds.now a.rows.now.count l.result.limits _ c.halves_close.result (omega arith) (omega arith) (omega arith)
    l.ensures.2 o.result o.ensures.0 o.ensures.1 c.halves_close.ensures
