use Prim.Native.Nat.{◌-◌}
use mathlib.Core.Path.{◌≡◌}
use mathlib.Core.Bool.{true}
use Rattle.logic.specs.Bounded.{all_below}
use Rattle.evidence.specs.Evidence.{label_of}
use Rattle.cell_walk.specs.Walks.{changes_up_to, Walked}
use Rattle.list_cells.specs.CellAnswers.{gathered_on}
use Rattle.list_cells.proofs.CellTest.walk_cells.Given as goal

abbrev pub invariant-loop-c : goal.invariant-loop-c
invariant-loop-c l =
    (all_below l.c (gathered_on l.self.s.layout.marks l.self.m.now (label_of l.self.s.layout l.self.s.bytes.now) l.above l.by.own l.by.shown l.by.against l.ds l.n) ≡ true)
    × (l.changes ≡ changes_up_to (l.c - 1)) × Walked l.above (l.c - 1) l.from
