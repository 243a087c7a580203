use native.Mathlib.Omega.{arith}
use Rattle.labels.specs.Words.{entries_read}
use Rattle.labels.proofs.entries_of.Goals as goal

pub returns : goal.returns
returns c = let x = c.args.x in entries_read x.high x.low (omega arith)
