use Rattle.fillers.specs.Gathered.{in_front}
use Rattle.fillers.proofs.targets.at.Goals as goal

pub returns : goal.returns
returns c = in_front c.args.x c.args.i
