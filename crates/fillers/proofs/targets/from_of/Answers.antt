use native.Mathlib.Omega.{arith}
use Rattle.fillers.specs.Gathered.{from_in, from_past}
use Rattle.fillers.proofs.targets.from_of.Goals as goal

pub returns-then-l-lt-MOST_LITERALS : goal.returns-then-l-lt-MOST_LITERALS
returns-then-l-lt-MOST_LITERALS c = (from_in _ c.if-l-lt-MOST_LITERALS.true _ c.word_no.ensures, omega arith)

pub returns-else-l-lt-MOST_LITERALS : goal.returns-else-l-lt-MOST_LITERALS
returns-else-l-lt-MOST_LITERALS c = (from_past _ c.if-l-lt-MOST_LITERALS.false, omega arith)
