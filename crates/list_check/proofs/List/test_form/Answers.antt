use Rattle.std.proofs.Common.{◌∙◌, ap, sym}
use Rattle.std.proofs.Math.Option.{some}
use Rattle.logic.specs.Refusals.{test_passes, test_refuses}
use Rattle.answers.specs.Answers.{numbered}
use Rattle.list_check.proofs.List.test_form.Goals as goal

pub returns-then-not-form_ok : goal.returns-then-not-form_ok
returns-then-not-form_ok c = ap (λ r. some (numbered r)) c.at.ensures ∙ sym (test_refuses _ 10 _ (sym c.form_ok.ensures ∙ c.if-not-form_ok.true))

pub returns : goal.returns
returns c = sym (test_passes _ 10 _ (sym c.form_ok.ensures ∙ c.if-not-form_ok.false))
