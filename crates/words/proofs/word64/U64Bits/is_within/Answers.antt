use Rattle.std.proofs.Common.{refl}
use Rattle.words.specs.Words.{within_read}
use Rattle.words.proofs.word64.U64Bits.is_within.Goals as goal

pub returns : goal.returns
returns c = within_read _ _ _ refl
