use native.Mathlib.Omega.{arith}
use mathlib.Core.Path.{◌≡◌}
use lib.ListN.{length}
use Rattle.counting.specs.Trees.{lower, upper}
use Rattle.list_leaf.specs.Totals.{totals_none, totals_more}
use Rattle.list_leaf.proofs.totals.Goals as goal

pub loop-i-init : goal.loop-i-init
loop-i-init c = totals_none _ _

pub overflow_add-sum : goal.overflow_add-sum
overflow_add-sum c = let v = c.loop-i in let t = v.invariant in let p = c.price_of-sum.ensures.0 in
    let a = t.most lower in let b = t.most upper in let d = p.most lower in let e = p.most upper in omega (arith, t.is, p.is)

pub loop-i-preserved : goal.loop-i-preserved
loop-i-preserved c = let v = c.loop-i in let a = c.args in
    totals_more a.way.now a.ms.now v.i v.sum c.price_of-sum.result c.price_of-sum.ensures.1 c.price_of-sum.ensures.0 v.invariant

pub returns : goal.returns
returns c = let v = c.loop-i in let z : v.i ≡ length c.args.ms.now = omega (arith, v.auto.i-end) in rw (← z) v.invariant
