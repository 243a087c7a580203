use mathlib.Core.Path.{ap}
use mathlib.Core.Bool.{not}
use borrow.Author.Tests.{eq-eqb, ne_eqb}
use Rattle.list_cells.proofs.mark_ok.Goals as goal

pub returns-then-cell-eq255 : goal.returns-then-cell-eq255
returns-then-cell-eq255 c = rw (eq-eqb _ 255 c.if-cell-eq255.true) c.compatible-free.ensures

pub returns-else-cell-eq255 : goal.returns-else-cell-eq255
returns-else-cell-eq255 c = rw (ne_eqb _ 255 c.if-cell-eq255.false) (ap not c.compatible-free.ensures)
