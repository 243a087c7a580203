use Rattle.cites.specs.Cites.{cite_earlier, cite_bad, cite_told}
use Rattle.cites.proofs.look_up.Goals as goal

pub returns-then-j-i : goal.returns-then-j-i
returns-then-j-i c = cite_told _ _ _ (cite_earlier _ _ c.if-j-i.true)

pub returns-else-j-i : goal.returns-else-j-i
returns-else-j-i c = cite_told _ _ _ (cite_bad _ _ c.if-j-i.false)
