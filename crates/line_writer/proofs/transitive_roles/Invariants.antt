use Prim.Native.Nat.{◌+◌}
use mathlib.Core.Path.{◌≡◌}
use lib.ListN.{get_or}
use Rattle.logic.specs.Sets.{has, set_of}
use Rattle.line_writer.proofs.transitive_roles.Given as goal

abbrev pub invariant-loop-r : goal.invariant-loop-r
invariant-loop-r l = l.out ≡ set_of l.r (λ r'. has (get_or l.a (16 + r') 0) r')
