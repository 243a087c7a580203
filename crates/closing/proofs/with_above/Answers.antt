use mathlib.Core.Path.{◌∙◌, sym, refl}
use native.Mathlib.Omega.{arith}
use Rattle.closing.proofs.with_above.Goals as goal

pub returns-then-has : goal.returns-then-has
returns-then-has c = (rw (sym c.has.ensures ∙ c.if-has.true) refl, omega arith)

pub returns-else-has : goal.returns-else-has
returns-else-has c = (rw (sym c.has.ensures ∙ c.if-has.false) refl, omega arith)
