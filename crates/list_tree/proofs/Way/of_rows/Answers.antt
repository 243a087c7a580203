use mathlib.Core.Path.{◌∙◌, refl, ap}
use mathlib.Core.Bool.{cond}
use lib.Dec.{ltb}
use native.Mathlib.Omega.{arith}
use borrow.Author.Rules.{rules}
use borrow.Author.Tests.{lt-ltb}
use Rattle.rows.specs.HeldRows.{first_at}
use Rattle.rows.proofs.HeldRows.{first_held}
use Rattle.rows.proofs.Made.{made_at}
use Rattle.list_leaf.specs.Leaf.{no_limit}
use Rattle.list_tree.specs.TreeSteps.{row_limit}
use Rattle.list_tree.specs.HeldLaws.{limits_rows}
use Rattle.list_tree.proofs.Way.of_rows.Goals as goal

pub returns : goal.returns
returns c = let a = c.args in let r = c.from_fn.ensures.items in
    let made = made_at (λ i. cond (ltb i a.rows.now.count) (row_limit (first_at a.rows.now.held a.rows.now.count i)) no_limit) no_limit (λ i b q e. search rules) c.from_fn.result 14 r in (
      r.long,
      refl,
      limits_rows a.rows.now.count a.rows.now.held c.from_fn.result (λ i h. made i (omega arith) ∙ rw (lt-ltb i a.rows.now.count h)
          (ap row_limit (first_held a.rows.now.held a.rows.now.count i _ h c.requires refl))),
    )
