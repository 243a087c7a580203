use Rattle.std.proofs.Common.{rules}
use Rattle.logic.specs.SetLaws.{narrow_word, narrow_whole}
use Rattle.words.proofs.mask16.U16Bits.is_below.Goals as goal

pub returns-then-n-lt16 : goal.returns-then-n-lt16
returns-then-n-lt16 c = narrow_word 16 _ _ c.if-n-lt16.true

pub returns-else-n-lt16 : goal.returns-else-n-lt16
returns-else-n-lt16 c = narrow_whole 16 _ _ (search rules) c.if-n-lt16.false
