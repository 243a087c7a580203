use lib.Bits.{and_le_l}
use Rattle.line_reader.specs.TruthSteps.{literal_own, literal_other}
use Rattle.line_reader.proofs.truth.literal_of.Goals as goal

pub overflow_sub-result : goal.overflow_sub-result
overflow_sub-result c = and_le_l _ _

pub returns-then-v-eq0 : goal.returns-then-v-eq0
returns-then-v-eq0 c = literal_own _ _ _ _ c.full_set-full.ensures c.if-v-eq0.true

pub returns-else-v-eq0 : goal.returns-else-v-eq0
returns-else-v-eq0 c = literal_other _ _ _ _ c.full_set-full.ensures c.if-v-eq0.false
