use native.Mathlib.Omega.{arith}
use Rattle.fillers.specs.Gathered.{none_yet, one_more}
use Rattle.fillers.proofs.targets.some_place.Goals as goal

pub loop-j-init : goal.loop-j-init
loop-j-init g c = λ p h. none_yet p

pub loop-j-preserved : goal.loop-j-preserved
loop-j-preserved g c = λ p h. one_more p c.loop-j.j _ _ (c.loop-j.invariant p h) (h c.loop-j.j c.found-out.result (omega arith) c.found-out.ensures)
