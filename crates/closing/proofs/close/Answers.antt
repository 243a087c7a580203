use mathlib.Core.Path.{◌≡◌}
use native.Mathlib.Omega.{arith}
use Rattle.closing.specs.Steps.{stop_start, stop_more}
use Rattle.closing.proofs.close.Goals as goal

pub loop-k-init : goal.loop-k-init
loop-k-init c = stop_start _ _ _ c.args.buf.now (λ p. omega (arith, c.slice_known-1.given p))

pub loop-k-preserved : goal.loop-k-preserved
loop-k-preserved c = stop_more c.args.at c.args.n c.args.t c.loop-k.k c.args.buf.now c.loop-k.buf _ (omega arith) c.loop-k.invariant c.pass.ensures

pub shape_of-buf : goal.shape_of-buf
shape_of-buf c = c.loop-k.invariant.whole

pub returns : goal.returns
returns c = let z : c.loop-k.k ≡ c.args.n = omega arith in rw z at c.loop-k.invariant
