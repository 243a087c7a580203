use Rattle.parts.specs.Numbers.{past}
use Rattle.parts.proofs.mask2.Goals as goal

pub returns-else-at-s : goal.returns-else-at-s
returns-else-at-s c = past c.args.s.now _ c.if-at-s.false
