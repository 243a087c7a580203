use Rattle.std.proofs.Common.{◌≡◌}
use Rattle.roles.specs.Ancestors.{above_transitive}
use Rattle.roles.proofs.complex_roles.Given as goal

abbrev pub invariant-loop-t : goal.invariant-loop-t
invariant-loop-t l = l.out ≡ above_transitive l.rs l.a l.t
