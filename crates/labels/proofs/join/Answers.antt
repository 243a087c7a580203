use native.Mathlib.Omega.{arith}
use lib.Bits.{or_block}
use mathlib.Core.Path.{sym}
use Rattle.labels.proofs.join.Goals as goal

pub returns : goal.returns
returns c = let g = c.args in let x = g.x in let y = g.y in
    sym (or_block 64 x.high y.high x.low y.low (omega arith) (omega arith))
