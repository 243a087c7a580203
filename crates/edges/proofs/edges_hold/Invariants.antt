use Rattle.std.specs.Prelude.{◌≡◌, true}
use Rattle.logic.specs.Bounded.{all_below}
use Rattle.edges.specs.EdgeSteps.{edge_struct, edge_with}
use Rattle.edges.proofs.edges_hold.Given as goal

abbrev pub invariant-loop-j : goal.invariant-loop-j
invariant-loop-j l = all_below l.j (λ j'. edge_with l.a l.n l.size true (edge_struct l.es j')) ≡ true
