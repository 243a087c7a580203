use native.Mathlib.Omega.{arith}
use mathlib.Core.Path.{◌∙◌, ap₂}
use mathlib.Core.Bool.{◌&&◌}
use Rattle.labels.specs.Words.{words_apart}
use Rattle.labels.proofs.consistent.Goals as goal

pub returns : goal.returns
returns c = let x = c.args.x in
    ap₂ ◌&&◌ c.word_apart.ensures c.word_apart-2.ensures ∙ words_apart 32 x.high x.low (omega arith)
