use Rattle.list_rows.specs.RowSteps.{inside_table}
use Rattle.list_rows.proofs.row_in_table.Goals as goal

pub returns : goal.returns
returns c = inside_table c.args.cs.now c.args.ds.now c.args.j _ c.byte.ensures
