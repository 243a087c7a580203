use Rattle.std.specs.Prelude.{Some, None, Ok, Err}
use Rattle.std.proofs.Common.{refl, sym, ◌∙◌, ap, ap₂, rules}
use Rattle.std.proofs.Math.Bool.{true, false}
use Rattle.claims.proofs.ClaimSteps.{first_is, off_first}
use Rattle.claims.proofs.kinds.Goals as goal

pub returns-in-Some-GraphOf : goal.returns-in-Some-GraphOf
returns-in-Some-GraphOf c = let g = c.args in
    c.kinds_after.ensures ∙ first_is g.first.now g.second.now false _
    (sym (c.in-Some-GraphOf.is ∙ ap Some c.in-Some-GraphOf.field-0-is) ∙ c.read_head.ensures.0)

pub returns-in-Some-RefutationOf : goal.returns-in-Some-RefutationOf
returns-in-Some-RefutationOf c = let g = c.args in
    c.kinds_after-in-Some-RefutationOf.ensures ∙ first_is g.first.now g.second.now true _
    (sym (c.in-Some-RefutationOf.is ∙ ap Some c.in-Some-RefutationOf.field-0-is) ∙ c.read_head.ensures.0)

pub returns-in-None : goal.returns-in-None
returns-in-None c = let g = c.args in ap Err c.whole.ensures ∙ off_first g.first.now g.second.now (sym c.in-None.is ∙ c.read_head.ensures.0)
