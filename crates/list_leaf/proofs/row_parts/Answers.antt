use mathlib.Core.Path.{◌≡◌}
use mathlib.Core.Bool.{cond}
use Prim.Native.Nat.{◌≤◌}
use lib.Dec.{ltb}
use native.Mathlib.Omega.{arith}
use borrow.Author.Rules.{rules}
use Rattle.rows.proofs.Made.{each_made}
use Rattle.list_leaf.specs.Weights.{part_at}
use Rattle.list_leaf.specs.WeightSteps.{parts_made}
use Rattle.list_leaf.proofs.row_parts.Goals as goal

pub returns : goal.returns
returns c = let g = c.args in let r = c.from_fn.ensures.items in
    parts_made g.way.now g.ms.now g.k c.from_fn.result r.long
    (each_made (λ i b. (b ≡ cond (ltb i g.k) (part_at g.way.now g.ms.now i) 0) × (b ≤ 16711680)) 0 (λ i b q e. search rules) c.from_fn.result 6 r)
    (omega arith)
