use Rattle.std.specs.Prelude.{◌≡◌, ◌+◌, true, not, get_or}
use Rattle.logic.specs.Sets.{within}
use Rattle.logic.specs.Bounded.{all_below}
use Rattle.roles.proofs.disjoint.compatible.Given as goal

abbrev pub invariant-loop-i : goal.invariant-loop-i
invariant-loop-i l = all_below l.i (λ i'. not (within (get_or l.a (32 + i') 0) l.m)) ≡ true
