use Rattle.std.proofs.Common.{◌≡◌, ◌+◌, ◌≤◌, max, length, drop}
use Rattle.vector_rows.specs.Rows.{until}
use Rattle.vector_rows.proofs.mark_from.Given as goal

abbrev pub invariant-loop-end : goal.invariant-loop-end
invariant-loop-end l = (l.end + length (until l.mark (drop l.end l.all)) ≡ l.from + length (until l.mark (drop l.from l.all))) × (l.end ≤ max l.from (length l.all))
