use native.Mathlib.Omega.{arith}
use Rattle.labels.specs.Words.{word_first, word_second, word_past}
use Rattle.labels.proofs.halves.half.Goals as goal

pub returns-then-k-eq0 : goal.returns-then-k-eq0
returns-then-k-eq0 c = rw c.if-k-eq0.true (word_first c.args.x)

pub returns-then-k-eq1 : goal.returns-then-k-eq1
returns-then-k-eq1 c = rw c.if-k-eq1.true (word_second c.args.x (omega arith))

pub returns : goal.returns
returns c = word_past c.args.x _ (omega arith) (omega arith)
