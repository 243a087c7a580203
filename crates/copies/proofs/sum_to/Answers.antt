use Rattle.copies.specs.Totals.{sum_start, sum_more}
use Rattle.copies.specs.Copying.{edge_room, count_read}
use Rattle.std.specs.Prelude.{◌≡◌}
use Rattle.std.proofs.Common.{arith}
use Rattle.copies.proofs.sum_to.Goals as goal

pub loop-i-init : goal.loop-i-init
loop-i-init c = (omega arith, omega arith, sum_start c.args.es.now c.args.y)

pub taken_at-requires : goal.taken_at-requires
taken_at-requires c = edge_room c.args.es.now c.args.k c.loop-i.i _ (omega arith) c.requires c.loop-i.invariant.0

pub loop-i-preserved : goal.loop-i-preserved
loop-i-preserved c = let p = c.args in let v = c.loop-i in (
  omega arith,
  omega arith,
  sum_more p.es.now v.i p.y _ _ v.invariant.2 (count_read p.es.now p.y v.i _ _ v.invariant.0 c.taken_at.ensures.0),
)

pub returns : goal.returns
returns c = let v = c.loop-i in let z : v.i ≡ c.args.k = omega arith in (rw z at v.invariant.2, omega arith)
