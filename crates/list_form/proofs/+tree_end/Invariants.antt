use Rattle.list_form.proofs.+tree_end.Given as goal

abbrev pub decreases-tree_end : goal.decreases-tree_end
decreases-tree_end l = l.left
