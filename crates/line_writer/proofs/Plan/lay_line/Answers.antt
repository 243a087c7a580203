use mathlib.Core.Path.{◌∙◌}
use native.Mathlib.Omega.{arith}
use lib.ListN.{length-set}
use Rattle.line_writer.specs.WriteBytes.{lay_steps}
use Rattle.line_writer.proofs.Plan.lay_line.Goals as goal

pub lay_names-requires : goal.lay_names-requires
lay_names-requires c = rw length-set (omega arith)

pub lay_rows-requires : goal.lay_rows-requires
lay_rows-requires c = let e = c.rows-at.ensures.0 in let n = c.lay_names.ensures.whole in let m = length-set c.args.buf.now 0 c.args.self.now.size in omega arith

pub shape_of-buf : goal.shape_of-buf
shape_of-buf c = c.close_roles.ensures.0 ∙ c.lay_rows.ensures.whole ∙ c.lay_names.ensures.whole ∙ length-set c.args.buf.now 0 c.args.self.now.size

pub returns : goal.returns
returns c = let p = c.args.self.now in lay_steps c.args.t p.concepts.now p.graph.layout p.graph.bytes.now c.args.a.now p.copies p.size _ c.args.buf.now _ _ _
    (omega arith) c.rows-at.ensures.0 c.lay_names.ensures c.lay_rows.ensures (λ q. omega (arith, c.slice_known-3-1.given q)) c.close_roles.ensures
