use Rattle.std.proofs.Common.{rules}
use Rattle.logic.specs.SetLaws.{narrow_word, narrow_whole}
use Rattle.words.proofs.word64.U64Bits.is_below.Goals as goal

pub returns-then-n-lt64 : goal.returns-then-n-lt64
returns-then-n-lt64 c = narrow_word 64 _ _ c.if-n-lt64.true

pub returns-else-n-lt64 : goal.returns-else-n-lt64
returns-else-n-lt64 c = narrow_whole 64 _ _ (search rules) c.if-n-lt64.false
