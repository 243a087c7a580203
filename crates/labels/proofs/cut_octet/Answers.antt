use Rattle.labels.specs.Labels.{past8}
use Rattle.labels.proofs.cut_octet.Goals as goal

pub returns-else-at-s : goal.returns-else-at-s
returns-else-at-s c = past8 c.args.s.now _ c.if-at-s.false
