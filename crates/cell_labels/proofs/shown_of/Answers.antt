use Rattle.cell_labels.specs.CellRows.{grown_none, grown_more, grown_done, shown_six}
use Rattle.cell_labels.specs.CellShows.{carried_at}
use Rattle.labels.specs.Labels.{value_of}
use native.Mathlib.Omega.{arith}
use Rattle.cell_labels.proofs.shown_of.Goals as goal

pub loop-f-init : goal.loop-f-init
loop-f-init c = (c.qualified_of-out.ensures.size, grown_none _ _ c.qualified_of-out.ensures.size)

pub with_every-next-requires : goal.with_every-next-requires
with_every-next-requires c = (c.loop-f.invariant.0, omega arith)

pub loop-f-preserved : goal.loop-f-preserved
loop-f-preserved c = let v = c.loop-f in let w = c.with_every-next.ensures in (w.size, grown_more _ _ v.f _ v.invariant.1 _ w)

pub returns : goal.returns
returns c B = let v = c.loop-f in let q = c.qualified_of-out in shown_six c.args.cs.now c.args.m.now (value_of c.args.x) (carried_at c.args.cs.now c.args.m.now (value_of c.args.x)) c.args.rows.now.held c.args.rows.now.count c.args.above q.result v.out q.ensures B (grown_done _ _ v.f _ v.invariant.1 _ (omega arith) (omega arith))
