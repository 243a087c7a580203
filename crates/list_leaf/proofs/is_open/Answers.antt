use native.Mathlib.Omega.{arith}
use Rattle.list_leaf.specs.OpenLaws.{open_zero, open_past, open_at}
use Rattle.list_leaf.proofs.is_open.Goals as goal

pub returns-then-c-eq0 : goal.returns-then-c-eq0
returns-then-c-eq0 c = open_zero c.args.cells.now c.args.c (omega arith)

pub returns-then-cells-c : goal.returns-then-cells-c
returns-then-cells-c c = open_past c.args.cells.now c.args.c (omega arith)

pub returns : goal.returns
returns c = open_at c.args.cells.now c.args.c (λ e. omega arith) (omega arith)
