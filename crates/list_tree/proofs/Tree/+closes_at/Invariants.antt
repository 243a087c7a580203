use Rattle.list_tree.proofs.Tree.+closes_at.Given as goal

abbrev pub decreases-closes_at : goal.decreases-closes_at
decreases-closes_at l = l.left
