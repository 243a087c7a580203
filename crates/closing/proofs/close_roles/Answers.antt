use mathlib.Core.Path.{◌∙◌, refl}
use native.Mathlib.Omega.{arith}
use Rattle.closing.specs.Steps.{small}
use Rattle.closing.proofs.Steps.{closed_short, closed_bytes}
use Rattle.closing.proofs.close_roles.Goals as goal

pub returns-then-buf-at : goal.returns-then-buf-at
returns-then-buf-at c = (refl, closed_short c.args.buf.now c.args.at c.args.d c.args.t c.args.a.now (omega arith))

pub overflow_mul-n : goal.overflow_mul-n
overflow_mul-n c = omega (arith, small c.args.d c.args.d (omega arith) (omega arith))

pub overflow_mul-n-2 : goal.overflow_mul-n-2
overflow_mul-n-2 c = omega (arith, small c.args.d c.args.d (omega arith) (omega arith))

pub returns-then-buf-at-2 : goal.returns-then-buf-at-2
returns-then-buf-at-2 c = (refl, closed_short c.args.buf.now c.args.at c.args.d c.args.t c.args.a.now (omega arith))

pub returns : goal.returns
returns c = let a = c.args in let b = c.close.ensures in let r = c.raise.ensures in (
  r.whole ∙ b.whole,
  closed_bytes a.buf.now a.at a.d a.t a.a.now c.close.new.buf c.raise.new.buf
      (λ p. omega (arith, c.slice_known-3-1.given p)) b r (omega arith),
)
