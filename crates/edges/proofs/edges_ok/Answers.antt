use mathlib.Core.Path.{refl, sym, ◌∙◌}
use mathlib.Core.Bool.{true, false}
use Rattle.edges.specs.EdgeSteps.{edges_read}
use Rattle.edges.proofs.edges_ok.Goals as goal

pub returns-then-not-edges_hold : goal.returns-then-not-edges_hold
returns-then-not-edges_hold c = let p = c.args in
    edges_read p.es.now p.a.now p.roles p.size _ _ false _
    c.edge_count-k.ensures.0 c.up_to.ensures.0
    (sym (c.if-not-edges_hold.true) ∙ c.edges_hold.ensures) refl

pub returns : goal.returns
returns c = let p = c.args in
    edges_read p.es.now p.a.now p.roles p.size _ _ true _
    c.edge_count-k.ensures.0 c.up_to.ensures.0
    (sym (c.if-not-edges_hold.false) ∙ c.edges_hold.ensures) c.edges_compatible.ensures
