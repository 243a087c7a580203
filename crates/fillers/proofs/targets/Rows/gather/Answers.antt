use native.Mathlib.Omega.{arith}
use native.Mathlib.Nat.{mod-eq_of_lt}
use Rattle.labels.specs.Labels.{label_few}
use Rattle.fillers.specs.Gathered.{gather_none, gather_more}
use borrow.Author.Rules.{rules}
use Rattle.fillers.proofs.targets.Rows.gather.Goals as goal

pub loop-j-init : goal.loop-j-init
loop-j-init c = gather_none _ _ _ _ _ c.requires

pub loop-j-preserved : goal.loop-j-preserved
loop-j-preserved c = let edge = c.edge_at-e in
    gather_more edge.result _ _ _ _ _ _ (omega arith) edge.ensures.0 (search rules) (mod-eq_of_lt edge.ensures.1)
    c.label-x.ensures (label_few c.label-x.result (search rules) (search rules))
    c.word_of.ensures c.word_of-in-loop-j.ensures c.word_of-in-loop-j-2.ensures c.word_of-in-loop-j-3.ensures c.loop-j.invariant
