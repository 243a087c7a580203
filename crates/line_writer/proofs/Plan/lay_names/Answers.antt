use mathlib.Core.Path.{◌≡◌}
use native.Mathlib.Omega.{arith}
use Rattle.labels.specs.Labels.{name_bytes, names_in}
use Rattle.lines.proofs.LineLaws.{name_next}
use Rattle.lines.proofs.Laying.{names_local, laid_none, laid_more}
use Rattle.line_writer.specs.WriteSteps.{element_names}
use Rattle.line_writer.proofs.Plan.lay_names.Goals as goal

pub loop-z-init : goal.loop-z-init
loop-z-init c = let w = c.args.self.now.graph.layout.wide in laid_none (name_bytes w) (names_in w) (names_local w) _ _ _

pub put_names-requires : goal.put_names-requires
put_names-requires c = let p = c.args.self.now in let l = c.loop-z.invariant.whole in let x = name_next (name_bytes p.graph.layout.wide) c.loop-z.z p.size (omega arith) in
    (omega (arith, c.name_at.ensures.0), c.names-m.ensures.1)

pub loop-z-preserved : goal.loop-z-preserved
loop-z-preserved c = let p = c.args.self.now in let w = p.graph.layout.wide in
    laid_more (name_bytes w) (names_in w) (names_local w) 1 c.loop-z.z _ (element_names p.concepts.now p.graph.layout p.graph.bytes.now p.copies) c.args.buf.now c.loop-z.buf _
    c.loop-z.invariant (rw c.name_at.ensures.0 at c.put_names.ensures) c.names-m.ensures.0

pub shape_of-buf : goal.shape_of-buf
shape_of-buf c = c.loop-z.invariant.whole

pub returns : goal.returns
returns c = let z : c.loop-z.z ≡ c.args.self.now.size = omega arith in rw z at c.loop-z.invariant
