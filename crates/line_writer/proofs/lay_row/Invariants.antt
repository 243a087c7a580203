use Rattle.lines.specs.Laying.{Masks}
use Rattle.line_writer.specs.WriteSteps.{CopyOf, row_masks}
use Rattle.line_writer.proofs.lay_row.Given as goal

abbrev pub invariant-loop-w : goal.invariant-loop-w
invariant-loop-w l = CopyOf l.k l.w l.y l.j × Masks l.at (row_masks l.es l.k) l.initial.buf l.w l.buf
