use mathlib.Core.Path.{◌≡◌}
use lib.ListN.{get_or}
use Rattle.logic.specs.Sets.{has}
use Rattle.logic.specs.Sums.{only}
use Rattle.edges.specs.Unions.{union_below}
use Rattle.edges.proofs.upward.Given as goal

abbrev pub invariant-loop-r : goal.invariant-loop-r
invariant-loop-r l = l.up ≡ union_below l.r (λ r'. only (has l.m r') (get_or l.a r' 0))
