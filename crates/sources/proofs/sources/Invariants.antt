use Rattle.sources.specs.Sources.{Sourced}
use Rattle.sources.proofs.sources.Given as goal

abbrev pub invariant-loop-e : goal.invariant-loop-e
invariant-loop-e l = Sourced l.m l.cs l.e l.out
