use Rattle.line_reader.specs.TruthSteps.{set_here, set_past}
use Rattle.line_reader.proofs.truth.set_at.Goals as goal

pub returns-then-v-lt-MOST_LITERALS : goal.returns-then-v-lt-MOST_LITERALS
returns-then-v-lt-MOST_LITERALS c = set_here c.args.t.now _ c.if-v-lt-MOST_LITERALS.true

pub returns-else-v-lt-MOST_LITERALS : goal.returns-else-v-lt-MOST_LITERALS
returns-else-v-lt-MOST_LITERALS c = set_past c.args.t.now _ c.if-v-lt-MOST_LITERALS.false
