use mathlib.Core.Path.{◌≡◌}
use mathlib.Core.Bool.{true}
use Rattle.logic.specs.Bounded.{all_below}
use Rattle.list_rows.specs.RowSteps.{cites_at}
use Rattle.list_rows.proofs.test_cells.Given as goal

abbrev pub invariant-loop-c : goal.invariant-loop-c
invariant-loop-c l = all_below l.c (cites_at l.marks l.ds l.k l.i) ≡ true
