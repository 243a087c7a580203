use Rattle.copies.specs.Copying.{sum_to}
use Rattle.logic.specs.Sums.{max_below}
use mathlib.Core.Path.{◌≡◌}
use Prim.Native.Nat.{◌*◌, ◌≤◌}
use Rattle.copies.proofs.most_to.Given as goal

abbrev pub invariant-loop-j : goal.invariant-loop-j
invariant-loop-j l = (l.most ≤ 65535 * l.j) × (l.most ≡ max_below l.n (sum_to l.es l.j))
