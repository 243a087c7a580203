use Rattle.cell_labels.specs.CellRows.{entry_shows, Grown}
use Rattle.labels.specs.Labels.{value_of}
use Rattle.logic.specs.Bounded.{any_below}
use lib.ListN.{length}
use mathlib.Core.Path.{◌≡◌}
use Rattle.cell_labels.proofs.shown_of.Given as goal

abbrev pub invariant-loop-f : goal.invariant-loop-f
invariant-loop-f l = (length l.out ≡ 6) × Grown l.initial.out l.out (λ i q. any_below l.f (λ g. entry_shows l.cs l.m (value_of l.x) l.above g i q))
