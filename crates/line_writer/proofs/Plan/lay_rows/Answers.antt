use mathlib.Core.Path.{◌≡◌}
use native.Mathlib.Omega.{arith}
use Rattle.line_writer.specs.WriteSteps.{row_room, rows_start, rows_more}
use Rattle.line_writer.proofs.Plan.lay_rows.Goals as goal

pub loop-x-init : goal.loop-x-init
loop-x-init c = let p = c.args.self.now in rows_start p.graph.layout p.graph.bytes.now p.copies p.size c.args.at c.args.buf.now

pub row_at-requires : goal.row_at-requires
row_at-requires c = let r = row_room c.args.self.now.size c.loop-x.x (omega arith) in omega arith

pub lay_row-requires : goal.lay_row-requires
lay_row-requires c = let p = c.args.self.now in let r = row_room p.size c.loop-x.x (omega arith) in let l = c.loop-x.invariant.whole in
    (p.some, omega (arith, c.row_at.ensures))

pub loop-x-preserved : goal.loop-x-preserved
loop-x-preserved c = let p = c.args.self.now in
    rows_more p.graph.layout p.graph.bytes.now _ p.copies p.size c.args.at c.loop-x.x _ c.args.buf.now c.loop-x.buf _ c.rest-es.ensures c.row_at.ensures c.loop-x.invariant c.lay_row.ensures

pub shape_of-buf : goal.shape_of-buf
shape_of-buf c = c.loop-x.invariant.whole

pub returns : goal.returns
returns c = let z : c.loop-x.x ≡ c.args.self.now.size = omega arith in rw z at c.loop-x.invariant
