use Prim.Native.Nat.{ℕ, ◌<◌}
use Rattle.logic.specs.Tests.{So}
use Rattle.logic.specs.Sets.{has}
use Rattle.cell_walk.proofs.rows_changed.Given as goal

abbrev pub invariant-loop-i : goal.invariant-loop-i
invariant-loop-i l = (l.c < 256) × ((j : ℕ) → j < l.i → So (has l.c j))
