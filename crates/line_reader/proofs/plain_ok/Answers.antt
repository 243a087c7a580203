use mathlib.Core.Path.{◌∙◌}
use Rattle.line_reader.specs.LineSteps.{sized}
use Rattle.line_reader.specs.Order.{plain_read}
use Rattle.line_reader.specs.TruthSteps.{follows_is, satisfies_is}
use Rattle.line_reader.proofs.plain_ok.Goals as goal

pub returns : goal.returns
returns c = let g = c.args in let l = g.l.now in let I = sized l.broad l.bytes.now l.size in let t = c.truth_sets-t in
    λ p A. plain_read g.rs.now g.cs.now g.qs.now p l.bytes.now l.broad _ l.size l.behind A _ _ _ _
    c.inclusions_ok-up.ensures c.transitivity_ok-on.ensures
    (c.rules_ok-rules.ensures ∙ follows_is g.rs.now g.cs.now g.qs.now p t.result I A t.ensures)
    (c.root_ok-root.ensures ∙ satisfies_is g.rs.now g.cs.now g.qs.now p t.result I A t.ensures)
