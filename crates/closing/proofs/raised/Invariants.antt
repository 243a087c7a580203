use mathlib.Core.Path.{◌≡◌}
use Rattle.closing.specs.Steps.{raised_to}
use Rattle.closing.proofs.raised.Given as goal

abbrev pub invariant-loop-u : goal.invariant-loop-u
invariant-loop-u l = l.out ≡ raised_to l.m l.t l.a l.u
