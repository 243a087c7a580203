use Rattle.closing.specs.Steps.{row_below, rows_lie, pass_start, pass_more}
use native.Mathlib.Omega.{arith}
use mathlib.Core.Path.{◌≡◌}
use Rattle.closing.proofs.pass.Goals as goal

pub row_at-from-requires : goal.row_at-from-requires
row_at-from-requires c = omega (arith, row_below c.args.k c.args.n c.args.n c.requires.0)

pub loop-x-init : goal.loop-x-init
loop-x-init c = pass_start _ _ _ _ _

pub row_at-row-requires : goal.row_at-row-requires
row_at-row-requires c = omega (arith, row_below c.loop-x.x c.args.n c.args.n (omega arith))

pub join-requires : goal.join-requires
join-requires c = (
  omega arith,
  rows_lie c.args.at c.args.n c.loop-x.x c.args.k _ _ _ (omega arith) (omega arith)
      (omega (arith, c.loop-x.invariant.whole)) c.row_at-row.ensures c.row_at-from.ensures,
)

pub loop-x-preserved : goal.loop-x-preserved
loop-x-preserved c = pass_more c.args.at c.args.n c.loop-x.x c.args.k _ c.args.buf.now c.loop-x.buf _ (omega arith) (omega arith) c.loop-x.invariant _ _
    c.row_at-row.ensures c.row_at-from.ensures c.join.ensures

pub shape_of-buf : goal.shape_of-buf
shape_of-buf c = c.loop-x.invariant.whole

pub returns : goal.returns
returns c = let z : c.loop-x.x ≡ c.args.n = omega arith in rw z at c.loop-x.invariant
