use mathlib.Core.Path.{◌∙◌, sym, ap}
use mathlib.Core.Bool.{◌&&◌}
use Rattle.std.proofs.Math.Option.{some}
use Rattle.answers.specs.Answers.{numbered}
use Rattle.logic.specs.Refusals.{test_refuses, test_passes}
use Rattle.claims.specs.ClaimSteps.{in_table}
use Rattle.claims.proofs.test_literals.Goals as goal

pub returns-then-not-in_table : goal.returns-then-not-in_table
returns-then-not-in_table c = ap (λ z. some (numbered z)) c.whole.ensures ∙ sym (test_refuses 0 24 _ (ap (λ b. b && in_table c.args.cs.now c.args.k.d) (sym c.in_table.ensures) ∙ ap (λ b. c.in_table.result && b) (sym c.in_table-2.ensures) ∙ c.if-not-in_table.true))

pub returns : goal.returns
returns c = sym (test_passes 0 24 _ (ap (λ b. b && in_table c.args.cs.now c.args.k.d) (sym c.in_table.ensures) ∙ ap (λ b. c.in_table.result && b) (sym c.in_table-2.ensures) ∙ c.if-not-in_table.false))
