use native.Mathlib.Omega.{arith}
use Rattle.list_form.specs.FormSteps.{rows_none, rows_many, cells_cut, tree_told, tree_missing}
use Rattle.list_form.proofs.counting_form.Goals as goal

pub returns-then-k-lt1 : goal.returns-then-k-lt1
returns-then-k-lt1 c = λ marks. rows_none marks c.args.ds.now c.args.k (omega arith)

pub returns-then-k-gt6 : goal.returns-then-k-gt6
returns-then-k-gt6 c = λ marks. rows_many marks c.args.ds.now c.args.k (omega arith) (omega arith)

pub returns-then-ds-start : goal.returns-then-ds-start
returns-then-ds-start c = let e = c.tree_start-start.ensures in let a = c.args in
    λ marks. cells_cut marks a.ds.now a.k (omega arith) (omega arith) (omega arith)

pub returns-in_default : goal.returns-in_default
returns-in_default c = let a = c.args in
    λ marks. tree_missing marks a.ds.now a.k c.tree_start-start.result
    (omega arith) (omega arith) c.tree_start-start.ensures (omega arith) c.in_default.ensures

pub returns : goal.returns
returns c = let a = c.args in
    λ marks. tree_told marks a.ds.now a.k c.tree_start-start.result c.in-Some.end
    (omega arith) (omega arith) c.tree_start-start.ensures (omega arith) c.in-Some.ensures
