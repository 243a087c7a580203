use Prim.Native.Nat.{◌*◌, ◌≤◌, max}
use mathlib.Core.Path.{◌≡◌}
use Rattle.logic.specs.Sums.{max_below}
use Rattle.copies.specs.Copying.{most_from}
use Rattle.copies.proofs.most_copies.Given as goal

abbrev pub invariant-loop-x : goal.invariant-loop-x
invariant-loop-x l = (l.most ≤ 32 * 65535) × (l.most ≡ max 1 (max_below l.x (most_from l.s.layout l.s.bytes.now l.n)))
