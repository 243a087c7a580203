use Rattle.std.proofs.Common.{◌∙◌, ap₂, arith}
use Rattle.std.specs.Prelude.{◌&&◌}
use Rattle.labels.specs.Blocks.{within_block}
use Rattle.labels.proofs.lies_within.Goals as goal

pub returns : goal.returns
returns c = let x = c.args.x in let y = c.args.y in
    ap₂ (λ a b. a && b) c.is_within.ensures c.is_within-2.ensures ∙ within_block 64 x.high y.high x.low y.low (omega arith) (omega arith)
