use mathlib.Core.Path.{◌∙◌, sym, ap}
use native.Mathlib.Omega.{arith}
use Rattle.parts.specs.Numbers.{up_to, up_to_all}
use Rattle.intake.specs.Order.{stops_5, stops_6, stops_7, stops_8, stops_26, stops_nowhere}
use Rattle.intake.specs.Steps.{disjoints_code}
use Rattle.intake.proofs.Answered.{answered}
use Rattle.intake.proofs.test_later.Goals as goal

pub returns-then-not-simples_ok : goal.returns-then-not-simples_ok
returns-then-not-simples_ok c = let g = c.args in
    answered c.whole.ensures ∙ stops_5 g.p.concepts.now g.p.query.now g.p.disjoint.now g.t.now (up_to 16 g.n)
    (sym c.simples_ok.ensures ∙ c.if-not-simples_ok.true)

pub returns-then-not-distincts_ok : goal.returns-then-not-distincts_ok
returns-then-not-distincts_ok c = let g = c.args in
    answered c.whole-then-not-distincts_ok.ensures ∙ stops_6 g.p.concepts.now g.p.query.now g.p.disjoint.now g.t.now (up_to 16 g.n)
    (sym c.simples_ok.ensures ∙ c.if-not-simples_ok.false)
    (sym c.distincts_ok.ensures ∙ c.if-not-distincts_ok.true)

pub returns-then-not-everys_ok : goal.returns-then-not-everys_ok
returns-then-not-everys_ok c = let g = c.args in
    answered c.whole-then-not-everys_ok.ensures ∙ stops_7 g.p.concepts.now g.p.query.now g.p.disjoint.now g.t.now (up_to 16 g.n)
    (sym c.simples_ok.ensures ∙ c.if-not-simples_ok.false)
    (sym c.distincts_ok.ensures ∙ c.if-not-distincts_ok.false)
    (sym c.everys_ok.ensures ∙ c.if-not-everys_ok.true)

pub returns-then-not-query_ok : goal.returns-then-not-query_ok
returns-then-not-query_ok c = let g = c.args in
    answered c.whole-then-not-query_ok.ensures ∙ stops_8 g.p.concepts.now g.p.query.now g.p.disjoint.now g.t.now (up_to 16 g.n)
    (sym c.simples_ok.ensures ∙ c.if-not-simples_ok.false)
    (sym c.distincts_ok.ensures ∙ c.if-not-distincts_ok.false)
    (sym c.everys_ok.ensures ∙ c.if-not-everys_ok.false)
    (sym c.query_ok.ensures ∙ c.if-not-query_ok.true)

pub returns-then-not-disjoints_ok : goal.returns-then-not-disjoints_ok
returns-then-not-disjoints_ok c = let g = c.args in
    answered c.whole-then-not-disjoints_ok.ensures ∙ stops_26 g.p.concepts.now g.p.query.now g.p.disjoint.now g.t.now (up_to 16 g.n)
    (sym c.simples_ok.ensures ∙ c.if-not-simples_ok.false)
    (sym c.distincts_ok.ensures ∙ c.if-not-distincts_ok.false)
    (sym c.everys_ok.ensures ∙ c.if-not-everys_ok.false)
    (sym c.query_ok.ensures ∙ c.if-not-query_ok.false)
    (ap (disjoints_code g.p.disjoint.now g.t.now) (up_to_all 16 g.n (omega arith)) ∙ sym c.disjoints_ok.ensures ∙ c.if-not-disjoints_ok.true)

pub returns : goal.returns
returns c = let g = c.args in
    stops_nowhere g.p.concepts.now g.p.query.now g.p.disjoint.now g.t.now (up_to 16 g.n)
    (sym c.simples_ok.ensures ∙ c.if-not-simples_ok.false)
    (sym c.distincts_ok.ensures ∙ c.if-not-distincts_ok.false)
    (sym c.everys_ok.ensures ∙ c.if-not-everys_ok.false)
    (sym c.query_ok.ensures ∙ c.if-not-query_ok.false)
    (ap (disjoints_code g.p.disjoint.now g.t.now) (up_to_all 16 g.n (omega arith)) ∙ sym c.disjoints_ok.ensures ∙ c.if-not-disjoints_ok.false)
