use Rattle.logic.specs.Sets.{nonempty}
use Rattle.edges.specs.EdgeSteps.{edge_read}
use Rattle.edges.proofs.edge_ok.Goals as goal

pub returns : goal.returns
unfolding nonempty
returns c = let p = c.args in edge_read p.a.now p.n p.size p.e _ _ c.requires c.is_below-narrow.ensures c.upward-up.ensures
