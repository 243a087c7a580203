use Rattle.entry_tests.specs.Everys.{EverysTo}
use Rattle.entry_tests.proofs.everys.everys_of.Given as goal

abbrev pub invariant-loop-e : goal.invariant-loop-e
invariant-loop-e l = EverysTo l.cs l.e l.out
