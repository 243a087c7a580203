use Rattle.nodes.specs.NodeSteps.{opposed_even, opposed_odd}
use Rattle.nodes.proofs.opposite.Goals as goal

pub returns-then-l-eq0 : goal.returns-then-l-eq0
returns-then-l-eq0 c = opposed_even _ c.if-l-eq0.true

pub returns-else-l-eq0 : goal.returns-else-l-eq0
returns-else-l-eq0 c = opposed_odd _ c.if-l-eq0.false
