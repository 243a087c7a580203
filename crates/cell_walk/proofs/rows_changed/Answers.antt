use mathlib.Core.Path.{sym, ◌∙◌}
use native.Mathlib.Omega.{arith}
use borrow.Author.Rules.{rules}
use Rattle.logic.specs.Tests.{So}
use Rattle.logic.specs.Bounded.{up_to_lem}
use Rattle.logic.specs.Sets.{has}
use Rattle.cell_walk.proofs.WalkLaws.{first_change, row_out, all_in}
use Rattle.cell_walk.proofs.rows_changed.Goals as goal

pub loop-i-init : goal.loop-i-init
loop-i-init c = (search rules, λ j h. absurd (omega arith))

pub returns-then-not-has : goal.returns-then-not-has
returns-then-not-has c = let v = c.loop-i.invariant in
    first_change _ _ v.0 (omega arith) (row_out _ _ v.1 (sym c.has.ensures ∙ c.if-not-has.true))

pub loop-i-preserved : goal.loop-i-preserved
loop-i-preserved c = let v = c.loop-i.invariant in
    let next = sym c.has.ensures ∙ c.if-not-has.false in
    (v.0, λ j k. up_to_lem (λ j. So (has _ j)) c.loop-i.i v.1 next j (omega arith))

pub returns : goal.returns
returns c = let v = c.loop-i.invariant in first_change _ 5 v.0 (omega arith) (all_in _ (λ j h. v.1 j (omega arith)))
