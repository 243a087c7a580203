use Rattle.closing.specs.Steps.{raise_more}
use Rattle.lines.proofs.Laying.{laid_none, two_local}
use native.Mathlib.Omega.{arith}
use mathlib.Core.Path.{◌≡◌}
use Prim.Native.Nat.{◌*◌}
use Rattle.parts.specs.Numbers.{num2}
use Rattle.closing.proofs.raise.Goals as goal

pub loop-i-init : goal.loop-i-init
loop-i-init c = (omega arith, laid_none 2 num2 two_local _ _ _)

pub loop-i-preserved : goal.loop-i-preserved
loop-i-preserved c = let v = c.loop-i in let e = v.invariant.0 in
    (omega arith, raise_more c.args.at c.args.t v.i _ _ c.args.a.now c.args.buf.now v.buf _ (rw e at c.mask2.ensures) c.raised-m.ensures v.invariant.1 (rw e at c.put_mask.ensures))

pub shape_of-buf : goal.shape_of-buf
shape_of-buf c = c.loop-i.invariant.1.whole

pub returns : goal.returns
returns c = let a = c.args in let z : c.loop-i.i ≡ a.n * a.n = omega arith in rw z at c.loop-i.invariant.1
