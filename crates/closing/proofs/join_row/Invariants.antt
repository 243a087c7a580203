use Rattle.closing.specs.Rows.{join_mask}
use Rattle.lines.specs.Laying.{Masks}
use Rattle.closing.proofs.join_row.Given as goal

abbrev pub invariant-loop-y : goal.invariant-loop-y
invariant-loop-y l = Masks l.at (join_mask l.initial.buf l.at l.from l.m) l.initial.buf l.y l.buf
