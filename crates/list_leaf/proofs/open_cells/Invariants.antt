use Rattle.list_leaf.specs.OpenLaws.{MarkedTo}
use Rattle.list_leaf.proofs.open_cells.Given as goal

abbrev pub invariant-loop-c : goal.invariant-loop-c
invariant-loop-c l = MarkedTo l.cells l.c l.marks
