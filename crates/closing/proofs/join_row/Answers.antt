use Rattle.closing.specs.Rows.{join_more}
use Rattle.lines.proofs.Laying.{laid_none, two_local}
use lib.ListN.{length-set}
use native.Mathlib.Omega.{arith}
use mathlib.Core.Path.{◌≡◌}
use Rattle.parts.specs.Numbers.{num2}
use Rattle.closing.proofs.join_row.Goals as goal

pub loop-y-init : goal.loop-y-init
loop-y-init c = laid_none 2 num2 two_local _ _ _

pub bounds-buf-i-in-loop-y-3 : goal.bounds-buf-i-in-loop-y-3
bounds-buf-i-in-loop-y-3 c = simp length-set (omega arith)

pub loop-y-preserved : goal.loop-y-preserved
loop-y-preserved c = rw c.to_be_bytes.ensures (join_more _ _ _ _ c.args.n _ c.loop-y.buf (omega arith) c.requires (omega arith) (λ q. omega (arith, c.slice_known-in-loop-y-3-1.given q)) c.loop-y.invariant)

pub shape_of-buf : goal.shape_of-buf
shape_of-buf c = c.loop-y.invariant.whole

pub returns : goal.returns
returns c = let v = c.loop-y in let z : v.y ≡ c.args.n = omega arith in rw z at v.invariant
