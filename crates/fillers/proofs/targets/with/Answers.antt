use Rattle.fillers.specs.Gathered.{in_both}
use Rattle.fillers.proofs.targets.with.Goals as goal

pub returns : goal.returns
returns c = in_both c.args.x c.args.y
