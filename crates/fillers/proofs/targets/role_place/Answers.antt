use native.Mathlib.Omega.{arith}
use Rattle.fillers.specs.Gathered.{role_in_lem, role_past}
use Rattle.fillers.proofs.targets.role_place.Goals as goal

pub returns-then-r-lt16 : goal.returns-then-r-lt16
returns-then-r-lt16 c = (role_in_lem _ c.if-r-lt16.true, omega arith)

pub returns-else-r-lt16 : goal.returns-else-r-lt16
returns-else-r-lt16 c = (role_past _ c.if-r-lt16.false, omega arith)
