use mathlib.Core.Path.{sym, ◌∙◌}
use Rattle.logic.specs.Refusals.{test_passes, test_refuses}
use Rattle.list_check.proofs.List.test_end.Goals as goal

pub returns-then-not-within_one : goal.returns-then-not-within_one
returns-then-not-within_one c = rw c.at.ensures (sym (test_refuses _ 20 _ (sym c.within_one.ensures ∙ c.if-not-within_one.true)))

pub returns : goal.returns
returns c = sym (test_passes _ 20 _ (sym c.within_one.ensures ∙ c.if-not-within_one.false))
