use borrow.Author.Tests.{lt-ltb, le-ltb}
use mathlib.Core.Path.{refl}
use Rattle.line_writer.proofs.copy_after.Goals as goal

pub returns-then-j-k : goal.returns-then-j-k
returns-then-j-k c = rw (lt-ltb _ _ c.if-j-k.true) refl

pub returns-else-j-k : goal.returns-else-j-k
returns-else-j-k c = rw (le-ltb _ _ c.if-j-k.false) refl
