use Prim.Native.Nat.{◌+◌, ◌-◌}
use mathlib.Core.Path.{◌≡◌, subst}
use native.Mathlib.Omega.{arith}
use Rattle.cell_walk.specs.Walks.{CorrectedAt}
use Rattle.cell_walk.proofs.WalkLaws.{rows_up, correct_start, correct_more, correct_done, walk_on}
use Rattle.cell_walk.proofs.next_cell.Goals as goal

pub loop-i-init : goal.loop-i-init
loop-i-init c = let g = c.args in let F = c.rows_changed-n.ensures in
    (F, correct_start g.above.now g.from.now g.c _ F)

pub loop-i-preserved : goal.loop-i-preserved
loop-i-preserved c = let v = c.loop-i.invariant in let g = c.args in
    let n = c.rows_changed-n.result in let i = c.loop-i.i in let e : i ≡ i - 1 + 1 = omega arith in (
      v.0,
      λ z. correct_more g.above.now g.from.now g.c n v.0 c.loop-i.from (i - 1) _ _ (omega arith)
          c.has.ensures c.join_if.ensures
          (subst (λ i. CorrectedAt g.above.now (g.c + 1) (rows_up n i) g.from.now c.loop-i.from) e (v.1 z)),
    )

pub returns-clause-masks : goal.returns-clause-masks
returns-clause-masks c = let v = c.loop-i.invariant in let g = c.args in
    λ z. correct_done g.above.now g.from.now g.c _ v.0 c.loop-i.i c.loop-i.from (omega arith) (v.1 z)

pub returns-clause-roles : goal.returns-clause-roles
returns-clause-roles c = let v = c.loop-i.invariant in let g = c.args in
    λ W. walk_on g.above.now g.from.now g.c _ v.0 c.loop-i.from
    (correct_done g.above.now g.from.now g.c _ v.0 c.loop-i.i c.loop-i.from (omega arith) (v.1 W.size)) W
