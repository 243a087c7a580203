use mathlib.Core.Path.{◌∙◌, ap}
use lib.Bits.{bit_and}
use lib.Dec.{leb}
use Rattle.logic.specs.Sums.{count_below}
use Rattle.logic.specs.Sets.{has}
use Rattle.line_reader.proofs.truth.enough_reached.Goals as goal

pub returns : goal.returns
returns c = ap (leb c.args.n) (c.set_size.ensures ∙ ap (λ m. count_below c.args.l.now.size (has (bit_and m c.args.q))) c.row.ensures)
