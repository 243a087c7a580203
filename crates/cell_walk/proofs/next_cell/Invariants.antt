use Prim.Native.Nat.{◌+◌}
use mathlib.Core.Path.{◌≡◌}
use lib.ListN.{length}
use Rattle.cell_walk.specs.Walks.{CorrectedAt}
use Rattle.cell_walk.specs.WalkLaws.{FirstChange}
use Rattle.cell_walk.proofs.WalkLaws.{rows_up}
use Rattle.cell_walk.proofs.next_cell.Given as goal

abbrev pub invariant-loop-i : goal.invariant-loop-i
invariant-loop-i l =
    FirstChange l.c l.n
    × (length l.initial.from ≡ 7 → CorrectedAt l.above (l.c + 1) (rows_up l.n l.i) l.initial.from l.from)
