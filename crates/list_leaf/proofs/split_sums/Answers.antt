use native.Mathlib.Omega.{arith}
use mathlib.Core.Path.{◌≡◌}
use lib.ListN.{length}
use Rattle.list_leaf.specs.WeightSteps.{sums_none, sums_more, sums_cleared}
use Rattle.list_leaf.proofs.split_sums.Goals as goal

pub loop-i-init : goal.loop-i-init
loop-i-init c = sums_none _ _ _

pub overflow_add-sums : goal.overflow_add-sums
overflow_add-sums c = let m = c.loop-i.invariant.most c.place-c.result c.place-c.ensures.0 in omega arith

pub loop-i-preserved : goal.loop-i-preserved
loop-i-preserved c = let v = c.loop-i in let a = c.args in let p = c.place-c in
    sums_more a.way.now a.ms.now a.k v.i p.result c.part.result v.sums p.ensures.0 v.auto.i p.ensures.1 c.part.ensures.0 c.part.ensures.1 v.invariant

pub returns : goal.returns
returns c = let v = c.loop-i in let a = c.args in
    let z : v.i ≡ length a.ms.now = omega (arith, c.requires.0, v.auto.i, v.auto.i-end) in
    rw (← z) (sums_cleared a.way.now a.ms.now a.k v.i v.sums v.invariant)
