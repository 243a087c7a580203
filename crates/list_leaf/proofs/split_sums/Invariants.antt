use Rattle.list_leaf.specs.Weights.{SplitSums}
use Rattle.list_leaf.proofs.split_sums.Given as goal

abbrev pub invariant-loop-i : goal.invariant-loop-i
invariant-loop-i l = SplitSums l.way l.ms l.k l.i l.sums
