use mathlib.Core.Path.{◌≡◌}
use native.Mathlib.Omega.{arith}
use Rattle.parts.specs.Numbers.{num2}
use Rattle.lines.proofs.Laying.{two_local, laid_none, laid_more}
use Rattle.line_writer.specs.WriteSteps.{row_masks, copy_next, copy_least, copy_mask}
use Rattle.line_writer.proofs.lay_row.Goals as goal

pub loop-w-init : goal.loop-w-init
loop-w-init c = ((omega arith, omega arith), laid_none 2 num2 two_local _ _ _)

pub put_mask-requires : goal.put_mask-requires
put_mask-requires c = let l = c.loop-w.invariant.1.whole in omega arith

pub record_after-y-requires : goal.record_after-y-requires
record_after-y-requires c = let v = c.loop-w in let z = copy_least _ _ _ _ v.invariant.0 in omega arith

pub loop-w-preserved : goal.loop-w-preserved
loop-w-preserved c = let p = c.args in let v = c.loop-w in (
  copy_next _ _ _ _ _ _ v.invariant.0 c.record_after-y.ensures c.copy_after-j.ensures,
  laid_more 2 num2 two_local p.at v.w _ (row_masks p.es.now p.k) p.buf.now v.buf _ v.invariant.1 c.put_mask.ensures
      (copy_mask p.es.now _ _ _ _ _ v.invariant.0 c.owner_mask.ensures),
)

pub shape_of-buf : goal.shape_of-buf
shape_of-buf c = c.loop-w.invariant.1.whole

pub returns : goal.returns
returns c = let v = c.loop-w in let z : v.w ≡ c.args.d = omega arith in rw z at v.invariant.1
