use native.Mathlib.Omega.{arith}
use Rattle.labels.specs.Labels.{mask_wide, mask_narrow}
use Rattle.labels.proofs.name_bytes.Goals as goal

pub returns-then-broad : goal.returns-then-broad
returns-then-broad c = (mask_wide _ c.if-broad.true, omega arith)

pub returns-else-broad : goal.returns-else-broad
returns-else-broad c = (mask_narrow _ c.if-broad.false, omega arith)
