use Rattle.fillers.specs.Gathered.{first_is}
use Rattle.fillers.proofs.targets.first.Goals as goal

pub returns : goal.returns
returns c = first_is c.args.x
