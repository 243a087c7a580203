use Rattle.list_leaf.specs.Totals.{Totals}
use Rattle.list_leaf.proofs.totals.Given as goal

abbrev pub invariant-loop-i : goal.invariant-loop-i
invariant-loop-i l = Totals l.way l.ms l.i l.sum
