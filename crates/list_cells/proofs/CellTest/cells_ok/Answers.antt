use mathlib.Core.Path.{◌∙◌}
use Rattle.cell_walk.proofs.WalkLaws.{tally_fine}
use Rattle.list_cells.specs.CellSteps.{cells_code}
use Rattle.list_cells.proofs.CellTest.cells_ok.Goals as goal

pub returns : goal.returns
unfolding cells_code
returns c = c.is_ok.ensures.value ∙ tally_fine c.walk_cells.ensures
