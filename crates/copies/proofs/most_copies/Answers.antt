use mathlib.Core.Path.{refl}
use native.Mathlib.Omega.{arith}
use Rattle.logic.specs.Sums.{max_below}
use Rattle.copies.specs.Copying.{copies_more, copies_end}
use Rattle.copies.proofs.most_copies.Goals as goal

pub loop-x-init : goal.loop-x-init
unfolding max_below
loop-x-init c = (omega arith, refl)

pub loop-x-preserved : goal.loop-x-preserved
loop-x-preserved c = let v = c.loop-x.invariant in (
  omega (arith, c.max-most.ensures, c.most_to.ensures.1),
  copies_more c.args.s.now.layout c.args.s.now.bytes.now c.args.n c.loop-x.x _ _ _ _ v.1
      c.rest-es.ensures c.most_to.ensures.0 c.max-most.ensures,
)

pub returns : goal.returns
returns c = let v = c.loop-x.invariant in (
  copies_end c.args.s.now.layout c.args.s.now.bytes.now c.args.n c.loop-x.x _ (omega arith) (omega arith) v.1,
  v.0,
)
