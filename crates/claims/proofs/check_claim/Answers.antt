use Rattle.std.proofs.Common.{sym, ◌∙◌, ap, rules}
use Rattle.answers.specs.Answers.{refusal_of}
use Rattle.claims.proofs.ClaimSteps.{claim_opened, claim_refused_lem}
use Rattle.claims.proofs.check_claim.Goals as goal

pub returns-in_err-o : goal.returns-in_err-o
returns-in_err-o c = let g = c.args in
    claim_refused_lem g.description.now g.c g.d g.first.now g.second.now c.from_residual.result c.in_err-o.field-0.0 (search rules)
    (sym (ap refusal_of c.in_err-o.was) ∙ c.open_description-o.ensures.tested)

pub returns : goal.returns
returns c = let g = c.args in let o = c.open_description-o.ensures in
    c.check_opened.ensures ∙ claim_opened g.description.now g.c g.d g.first.now g.second.now _ _ _ _ _
    (sym (ap refusal_of c.in_ok-o.was) ∙ o.tested) o.masks o.count o.concepts o.query o.marks
