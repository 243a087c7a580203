use native.Mathlib.Omega.{arith}
use Rattle.labels.specs.Words.{word_low, word_high}
use mathlib.Core.Path.{◌∙◌}
use Rattle.labels.proofs.word_of.Goals as goal

pub returns-then-k-lt2 : goal.returns-then-k-lt2
returns-then-k-lt2 c = let x = c.args.x in c.half.ensures ∙ word_low x.high x.low _ (omega arith) c.if-k-lt2.true

pub returns-else-k-lt2 : goal.returns-else-k-lt2
returns-else-k-lt2 c = let x = c.args.x in c.half-else-k-lt2.ensures ∙ word_high x.high x.low _ (omega arith) c.if-k-lt2.false
