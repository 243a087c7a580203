use Rattle.line_reader.specs.LineSteps.{sized}
use Rattle.line_reader.specs.TruthSteps.{TruthSets}
use Rattle.line_reader.proofs.truth.truth_sets.Given as goal

abbrev pub invariant-loop-e : goal.invariant-loop-e
invariant-loop-e v = TruthSets v.cs (sized v.l.broad v.l.bytes.now v.l.size) v.e v.out
