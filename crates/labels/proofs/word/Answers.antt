use Rattle.labels.specs.Labels.{past4}
use Rattle.labels.proofs.word.Goals as goal

pub returns-else-at-s : goal.returns-else-at-s
returns-else-at-s c = past4 c.args.s.now _ c.if-at-s.false
