use Prim.Native.Nat.{◌*◌}
use Rattle.lines.specs.Laying.{Masks}
use Rattle.line_writer.specs.WriteSteps.{direct_masks}
use Rattle.line_writer.proofs.Plan.lay_rows.Given as goal

abbrev pub invariant-loop-x : goal.invariant-loop-x
invariant-loop-x l = let p = l.self in Masks l.at (direct_masks p.graph.layout p.graph.bytes.now p.copies p.size) l.initial.buf (l.x * p.size) l.buf
