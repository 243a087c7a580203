use mathlib.Core.Path.{sym, ◌∙◌, ap}
use Rattle.rows.specs.HeldRows.{count_row}
use Rattle.rows.proofs.HeldRows.{count_few, count_made}
use Rattle.rows.proofs.count_row.Goals as goal

pub narrow-requires : goal.narrow-requires
narrow-requires c = count_few _ _ c.requires c.in-AtLeast.is

pub returns-in-AtLeast : goal.returns-in-AtLeast
returns-in-AtLeast c = count_made _ _ c.narrow.ensures ∙ ap count_row (sym c.in-AtLeast.is)
