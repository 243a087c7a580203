use Rattle.words.specs.Words.{put_on}
use Rattle.words.proofs.word64.U64Bits.put.Goals as goal

pub returns-then-i-asked : goal.returns-then-i-asked
returns-then-i-asked c = put_on 64 _ c.args.i c.args.asked c.if-i-asked.true
