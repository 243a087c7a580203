use mathlib.Core.Path.{refl}
use native.Mathlib.Omega.{arith}
use Rattle.parts.specs.Filling.{filled_none}
use Rattle.line_reader.specs.LineSteps.{sized}
use Rattle.line_reader.specs.TruthSteps.{truth_more, truth_done}
use Rattle.line_reader.proofs.truth.truth_sets.Goals as goal

pub loop-e-init : goal.loop-e-init
loop-e-init c = λ rs qs p A. filled_none _ _ _ refl

pub loop-e-preserved : goal.loop-e-preserved
loop-e-preserved c = let l = c.args.l.now in truth_more c.args.cs.now (sized l.broad l.bytes.now l.size) c.loop-e.e _ _ (omega arith) (omega arith) c.entry_set-set.ensures c.loop-e.invariant

pub returns : goal.returns
returns c = let l = c.args.l.now in truth_done c.args.cs.now (sized l.broad l.bytes.now l.size) c.loop-e.e _ _ (omega arith) (omega arith) c.loop-e.invariant
