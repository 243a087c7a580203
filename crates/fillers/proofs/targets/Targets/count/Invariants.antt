use Prim.Native.Nat.{◌*◌, ◌≤◌}
use mathlib.Core.Path.{◌≡◌}
use mathlib.Core.Bool.{◌&&◌}
use lib.ListN.{get_or}
use Rattle.logic.specs.Sums.{only, sum_below}
use Rattle.fillers.specs.Gathered.{in_mask, in_word}
use Rattle.fillers.proofs.targets.Targets.count.Given as goal

abbrev pub invariant-loop-j : goal.invariant-loop-j
invariant-loop-j l = let rows = l.self.rows.now in
    (l.sum ≤ 65535 * l.j) × (l.sum ≡ sum_below l.j (λ j'. only (in_mask rows.masks l.p j' && in_word rows.words l.from l.i j') (get_or rows.counts j' 0)))
