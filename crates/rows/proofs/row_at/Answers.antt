use mathlib.Core.Path.{◌∙◌, ap}
use lib.ListN.{get_or, take}
use Rattle.rows.specs.HeldRows.{no_row}
use Rattle.rows.proofs.row_at.Goals as goal

pub returns : goal.returns
returns c = let a = c.args in
    c.held_row.ensures ∙ ap (λ n. get_or (take n a.rows.now.held) a.i no_row) c.up_to-count.ensures.0
