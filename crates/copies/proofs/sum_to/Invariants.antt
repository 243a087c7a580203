use Rattle.copies.specs.Copying.{sum_to}
use Rattle.std.specs.Prelude.{◌≡◌, ◌*◌, ◌≤◌}
use Rattle.copies.proofs.sum_to.Given as goal

abbrev pub invariant-loop-i : goal.invariant-loop-i
invariant-loop-i l = (l.at ≡ 5 * l.i) × (l.sum ≤ 65535 * l.i) × (l.sum ≡ sum_to l.es l.i l.y)
