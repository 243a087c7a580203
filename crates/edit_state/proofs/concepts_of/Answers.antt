use Rattle.std.proofs.Common.{◌*◌, take, drop, ap, ◌∙◌, arith}
use Rattle.edit_state.specs.Lent.{concepts_from}
use Rattle.edit_state.specs.PlaceLaws.{span_short}
use Rattle.edit_state.proofs.concepts_of.Goals as goal

pub returns : goal.returns
returns c = let st = c.args.st.now in let n = c.count_entries in
    (c.span.ensures ∙ ap (λ n. take (6 * n) (drop concepts_from st)) n.ensures.0, omega (arith, n.ensures, span_short (6 * n.result) (drop concepts_from st) _ c.span.ensures))
