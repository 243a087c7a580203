use Rattle.labels.specs.Labels.{value_of}
use Rattle.nodes.specs.NodeSteps.{label_read}
use Rattle.nodes.proofs.label_ok.Goals as goal

pub returns : goal.returns
returns c = let g = c.args in let n = c.entry_count-n in
    label_read g.cs.now (value_of g.x) n.result (value_of g.need) _ _ _
    n.ensures c.below-table.ensures c.lies_within-needed.ensures c.consistent-apart.ensures
