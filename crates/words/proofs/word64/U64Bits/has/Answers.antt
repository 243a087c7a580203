use Rattle.std.proofs.Common.{rules}
use Rattle.logic.specs.SetLaws.{has_word}
use Rattle.words.proofs.word64.U64Bits.has.Goals as goal

pub returns : goal.returns
returns c = has_word 64 _ _ (search rules)
