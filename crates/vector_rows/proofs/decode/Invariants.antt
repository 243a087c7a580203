use Rattle.std.proofs.Common.{length}
use Rattle.parts.specs.Filling.{Filled}
use Rattle.vector_rows.specs.Rows.{byte_said}
use Rattle.vector_rows.proofs.decode.Given as goal

abbrev pub invariant-loop-i : goal.invariant-loop-i
invariant-loop-i l = Filled (length l.initial.out) (λ j. byte_said l.hex j 0) l.i l.out
