use native.Mathlib.Omega.{arith}
use Rattle.labels.specs.Labels.{bytes_wide, bytes_narrow}
use Rattle.labels.proofs.label_bytes.Goals as goal

pub returns-then-broad : goal.returns-then-broad
returns-then-broad c = (bytes_wide _ c.if-broad.true, omega arith)

pub returns-else-broad : goal.returns-else-broad
returns-else-broad c = (bytes_narrow _ c.if-broad.false, omega arith)
