use mathlib.Core.Path.{sym, ◌∙◌, ap}
use Rattle.rows.specs.HeldRows.{some_row}
use Rattle.rows.proofs.HeldRows.{some_made}
use Rattle.rows.proofs.some_row.Goals as goal

pub returns-in-Every : goal.returns-in-Every
returns-in-Every c = some_made _ _ _ c.opposite.ensures ∙ ap some_row (sym c.in-Every.is)
