use Rattle.std.specs.Prelude.{◌≡◌, true}
use Rattle.logic.specs.Bounded.{all_below}
use Rattle.line_reader.specs.LineSteps.{closed_at}
use Rattle.line_reader.proofs.pairs.row_closed.Given as goal

abbrev pub invariant-loop-y : goal.invariant-loop-y
invariant-loop-y l = all_below l.y (closed_at l.rows l.x) ≡ true
