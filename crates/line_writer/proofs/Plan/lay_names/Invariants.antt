use Rattle.lines.specs.Laying.{Names}
use Rattle.line_writer.specs.WriteSteps.{element_names}
use Rattle.line_writer.proofs.Plan.lay_names.Given as goal

abbrev pub invariant-loop-z : goal.invariant-loop-z
invariant-loop-z l = let p = l.self in Names p.graph.layout.wide 1 (element_names p.concepts.now p.graph.layout p.graph.bytes.now p.copies) l.initial.buf l.z l.buf
