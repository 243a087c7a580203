use Rattle.words.specs.Words.{push_on, push_off}
use Rattle.words.proofs.push.Goals as goal

pub returns-then-b : goal.returns-then-b
returns-then-b c = push_on c.args.x c.args.b c.if-b.true

pub returns-else-b : goal.returns-else-b
returns-else-b c = push_off c.args.x c.args.b c.if-b.false
