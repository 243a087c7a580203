use Rattle.copies.specs.Copying.{owner_from, owner_mask}
use Rattle.edges.specs.EdgeSteps.{edge_count}
use mathlib.Core.Path.{◌≡◌}
use Prim.Native.Nat.{◌*◌, ◌-◌, ◌≤◌}
use Rattle.copies.proofs.owner_mask.Given as goal

abbrev pub invariant-loop-i : goal.invariant-loop-i
invariant-loop-i l = (l.k ≡ edge_count l.es) × (l.i ≤ l.k) × (l.at ≡ 5 * l.i) × (owner_from l.es l.y (l.k - l.i) l.i l.left ≡ owner_mask l.es l.y l.j)

abbrev pub decreases-loop-i : goal.decreases-loop-i
decreases-loop-i l = l.k - l.i
