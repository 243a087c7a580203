use Rattle.std.proofs.Common.{◌∙◌, ap, sym, rules}
use Rattle.answers.specs.Answers.{refusal_of}
use Rattle.verdict.specs.VerdictSteps.{verdict_opened, verdict_refused}
use Rattle.verdict.proofs.judge.Goals as goal

pub returns-in_err-o : goal.returns-in_err-o
returns-in_err-o c = verdict_refused c.args.d.now c.args.s.now c.from_residual.result c.in_err-o.field-0.0 (search rules)
    (sym (ap refusal_of c.in_err-o.was) ∙ c.open_description-o.ensures.tested)

pub returns : goal.returns
returns c = let g = c.args in let o = c.open_description-o.ensures in
    c.check_opened.ensures ∙ verdict_opened g.d.now g.s.now _ _ _ _ _ (sym (ap refusal_of c.in_ok-o.was) ∙ o.tested) o.masks o.count
    o.concepts o.query o.marks
