use Rattle.words.specs.Words.{put_on}
use Rattle.words.proofs.mask16.U16Bits.put.Goals as goal

pub returns-then-i-asked : goal.returns-then-i-asked
returns-then-i-asked c = put_on 16 _ c.args.i c.args.asked c.if-i-asked.true
