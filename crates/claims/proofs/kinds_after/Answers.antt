use Rattle.std.specs.Prelude.{Some, None, Ok, Err}
use Rattle.std.proofs.Common.{refl, sym, ◌∙◌, ap, ap₂, rules}
use Rattle.claims.specs.Claims.{pieces}
use Rattle.claims.proofs.ClaimSteps.{after_none, after_some, after_off, after_list}
use Rattle.claims.proofs.kinds_after.Goals as goal

pub returns-then-list : goal.returns-then-list
unfolding pieces
returns-then-list c = let g = c.args in after_none g.list _ c.if-list.true g.second.now c.if-second-eq0.true

pub returns-else-list : goal.returns-else-list
unfolding pieces
returns-else-list c = let g = c.args in after_none g.list _ c.if-list.false g.second.now c.if-second-eq0.true

pub returns-then-list-2 : goal.returns-then-list-2
unfolding pieces
returns-then-list-2 c = let g = c.args in
    after_some g.list _ c.if-list-2.true g.second.now _ c.if-second-eq0.false
    (sym (c.in-Some-GraphOf.is ∙ ap Some c.in-Some-GraphOf.field-0-is) ∙ c.read_head.ensures.0)

pub returns-else-list-2 : goal.returns-else-list-2
unfolding pieces
returns-else-list-2 c = let g = c.args in
    ap Err c.whole.ensures ∙ after_some g.list _ c.if-list-2.false g.second.now _ c.if-second-eq0.false
    (sym (c.in-Some-GraphOf.is ∙ ap Some c.in-Some-GraphOf.field-0-is) ∙ c.read_head.ensures.0)

pub returns-in-Some-RefutationOf : goal.returns-in-Some-RefutationOf
unfolding pieces
returns-in-Some-RefutationOf c = let g = c.args in
    ap Err c.whole-in-Some-RefutationOf.ensures ∙ after_list g.list _ ∙ after_some g.list _ refl g.second.now _ c.if-second-eq0.false
    (sym (c.in-Some-RefutationOf.is ∙ ap Some c.in-Some-RefutationOf.field-0-is) ∙ c.read_head.ensures.0)

pub returns-in-None : goal.returns-in-None
unfolding pieces
returns-in-None c = let g = c.args in
    ap Err c.whole-in-None.ensures ∙ after_off g.list ∙ after_some g.list _ refl g.second.now _ c.if-second-eq0.false
    (sym c.in-None.is ∙ c.read_head.ensures.0)
