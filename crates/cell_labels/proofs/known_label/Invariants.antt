use Rattle.cell_labels.specs.CellRows.{gives}
use Rattle.cell_labels.specs.CellShows.{Puts}
use Rattle.labels.specs.Labels.{value_of}
use Rattle.logic.specs.Sets.{has}
use Rattle.logic.specs.Bounded.{any_below}
use Rattle.cell_labels.proofs.known_label.Given as goal

abbrev pub invariant-loop-i : goal.invariant-loop-i
invariant-loop-i l =
    Puts (value_of l.initial.out) (value_of l.out) (λ q. any_below l.i (gives (has l.roles) l.own l.shown l.against l.c q))
