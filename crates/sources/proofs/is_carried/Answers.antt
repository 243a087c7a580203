use Rattle.labels.specs.Labels.{value_of}
use Rattle.sources.specs.Sources.{none_carried}
use Rattle.sources.proofs.is_carried.Goals as goal

pub returns-then-carry-eq0 : goal.returns-then-carry-eq0
returns-then-carry-eq0 c = none_carried c.args.cs.now (value_of c.args.x) c.args.carry c.args.l c.if-carry-eq0.true
