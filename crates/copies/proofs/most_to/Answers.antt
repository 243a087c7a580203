use Prim.Native.Nat.{◌+◌}
use mathlib.Core.Path.{◌≡◌, ◌∙◌, refl}
use native.Mathlib.Omega.{arith}
use borrow.Author.Tests.{lt-ltb, le-ltb}
use Rattle.copies.specs.Totals.{most_start, most_more}
use Rattle.copies.specs.Copying.{sum_to, total_to}
use Rattle.copies.proofs.most_to.Goals.{then-y-n, else-y-n}
use Rattle.copies.proofs.most_to.Goals as goal

pub loop-j-init : goal.loop-j-init
loop-j-init c = (omega arith, most_start c.args.es.now _)

pub sum_to-sum-requires : goal.sum_to-sum-requires
sum_to-sum-requires c = omega (arith, c.edge_count-j-end.ensures.0)

pub loop-j-preserved : goal.loop-j-preserved
loop-j-preserved c = let es = c.args.es.now in let j = c.loop-j.j in let v = c.loop-j.invariant in elim c.if-y-n.branch [
  | then-y-n w ↦ (
    omega (arith, w.most-is, w.max-most.ensures, w.sum_to-sum.ensures.1),
    most_more es c.args.n j _ _ _ _ c.byte-y.ensures v.1 w.sum_to-sum.ensures.0
        (w.most-is ∙ w.max-most.ensures ∙ rw (lt-ltb _ _ w.if-y-n.true) refl),
  )
  | else-y-n w ↦ (
    omega (arith, w.most-is),
    most_more es c.args.n j c.byte-y.result _ (sum_to es (j + 1) c.byte-y.result) _ c.byte-y.ensures v.1 refl
        (rw (le-ltb _ _ w.if-y-n.false) (omega (arith, w.most-is))),
  )
]

pub returns : goal.returns
unfolding total_to
returns c = let v = c.loop-j in let z : v.j ≡ c.edge_count-j-end.result = omega arith in
    (rw (z, c.edge_count-j-end.ensures.0) at v.invariant.1, omega arith)
