use Rattle.std.specs.Prelude.{◌≡◌, true}
use Rattle.logic.specs.Bounded.{all_below}
use Rattle.roles.specs.Disjoint.{compatible_by}
use Rattle.edges.specs.EdgeSteps.{edge_struct}
use Rattle.edges.proofs.edges_compatible.Given as goal

abbrev pub invariant-loop-j : goal.invariant-loop-j
invariant-loop-j l = all_below l.j (λ j'. compatible_by l.a (edge_struct l.es j').mask) ≡ true
