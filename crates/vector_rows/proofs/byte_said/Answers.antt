use Rattle.vector_rows.specs.Rows.{said_there, said_past}
use native.Mathlib.Omega.{arith}
use Rattle.vector_rows.proofs.byte_said.Goals as goal

pub returns-then-i-hex : goal.returns-then-i-hex
returns-then-i-hex c = said_there _ _ _ _ _ (omega arith) c.digit.ensures.0 c.digit-then-i-hex.ensures.0

pub returns-else-i-hex : goal.returns-else-i-hex
returns-else-i-hex c = said_past _ _ _ (omega arith)
