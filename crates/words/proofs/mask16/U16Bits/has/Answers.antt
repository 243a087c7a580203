use Rattle.std.proofs.Common.{rules}
use Rattle.logic.specs.SetLaws.{has_word}
use Rattle.words.proofs.mask16.U16Bits.has.Goals as goal

pub returns : goal.returns
returns c = has_word 16 _ _ (search rules)
