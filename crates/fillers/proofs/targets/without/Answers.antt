use lib.Bits.{and_le_l}
use Rattle.fillers.specs.Gathered.{in_one}
use Rattle.fillers.proofs.targets.without.Goals as goal

pub overflow_sub-result : goal.overflow_sub-result
overflow_sub-result c = and_le_l c.args.x c.args.y

pub returns : goal.returns
returns c = in_one c.args.x c.args.y
