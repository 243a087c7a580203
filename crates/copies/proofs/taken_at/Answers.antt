use borrow.Author.Tests.{eq-eqb, ne_eqb}
use native.Mathlib.Omega.{arith}
use mathlib.Core.Path.{refl}
use Rattle.copies.proofs.taken_at.Goals as goal

pub returns-then-es-from : goal.returns-then-es-from
returns-then-es-from c = (rw (eq-eqb _ _ c.if-es-from.true) c.read2.ensures.0, omega arith)

pub returns-else-es-from : goal.returns-else-es-from
returns-else-es-from c = (rw (ne_eqb _ _ c.if-es-from.false) refl, omega arith)
