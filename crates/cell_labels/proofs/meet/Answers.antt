use mathlib.Core.Path.{◌∙◌}
use native.Mathlib.Omega.{arith}
use Rattle.cell_labels.specs.CellLaws.{meet_is}
use Rattle.cell_labels.proofs.meet.Goals as goal

pub returns : goal.returns
returns c = c.meets.ensures ∙ meet_is c.args.x c.args.y (omega arith)
