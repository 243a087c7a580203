use Rattle.std.proofs.Common.{◌*◌, take, drop, ap, ◌∙◌, arith}
use Rattle.edit_state.specs.Lent.{roles_from}
use Rattle.edit_state.specs.PlaceLaws.{span_short}
use Rattle.edit_state.proofs.roles_of.Goals as goal

pub returns : goal.returns
returns c = let st = c.args.st.now in let n = c.count_roles in
    (c.span.ensures ∙ ap (λ n. take (3 * n) (drop roles_from st)) n.ensures.0, omega (arith, n.ensures, span_short (3 * n.result) (drop roles_from st) _ c.span.ensures))
