use Rattle.std.proofs.Common.{◌+◌, take, drop, ap, ◌∙◌, arith}
use Rattle.edit_state.specs.Lent.{query_from}
use Rattle.edit_state.specs.PlaceLaws.{span_short}
use Rattle.edit_state.proofs.query_of.Goals as goal

pub returns : goal.returns
returns c = let st = c.args.st.now in let n = c.count_rules in
    (c.span.ensures ∙ ap (λ n. take (1 + n) (drop query_from st)) n.ensures.0, omega (arith, n.ensures, span_short (1 + n.result) (drop query_from st) _ c.span.ensures))
