use mathlib.Core.Path.{◌∙◌, sym, ap}
use Rattle.parts.specs.Numbers.{up_to}
use Rattle.answers.specs.Answers.{wholly}
use Rattle.intake.specs.Intake.{sizes_few}
use Rattle.intake.specs.Steps.{later_test}
use Rattle.intake.specs.Order.{stops_2, stops_3, stops_4, goes_on}
use Rattle.intake.proofs.Answered.{answered}
use Rattle.intake.proofs.test_parts.Goals as goal

pub returns-then-not-sizes_ok : goal.returns-then-not-sizes_ok
returns-then-not-sizes_ok c = let g = c.args in
    answered c.whole.ensures ∙ stops_2 g.p.roles.now g.p.concepts.now g.p.query.now g.p.disjoint.now g.t.now (sym c.sizes_ok.ensures ∙ c.if-not-sizes_ok.true)

pub roles_ok-requires : goal.roles_ok-requires
roles_ok-requires c = let g = c.args in
    (sizes_few g.p.roles.now g.p.concepts.now g.p.query.now g.p.disjoint.now (sym c.sizes_ok.ensures ∙ c.if-not-sizes_ok.false)).0

pub returns-then-not-roles_ok : goal.returns-then-not-roles_ok
returns-then-not-roles_ok c = let g = c.args in
    answered c.whole-then-not-roles_ok.ensures ∙ stops_3 g.p.roles.now g.p.concepts.now g.p.query.now g.p.disjoint.now g.t.now (sym c.sizes_ok.ensures ∙ c.if-not-sizes_ok.false) (sym c.roles_ok.ensures ∙ c.if-not-roles_ok.true)

pub entries_ok-requires : goal.entries_ok-requires
entries_ok-requires c = let g = c.args in
    (sizes_few g.p.roles.now g.p.concepts.now g.p.query.now g.p.disjoint.now (sym c.sizes_ok.ensures ∙ c.if-not-sizes_ok.false)).2

pub returns-then-not-entries_ok : goal.returns-then-not-entries_ok
returns-then-not-entries_ok c = let g = c.args in
    answered c.whole-then-not-entries_ok.ensures ∙ stops_4 g.p.roles.now g.p.concepts.now g.p.query.now g.p.disjoint.now g.t.now (sym c.sizes_ok.ensures ∙ c.if-not-sizes_ok.false) (sym c.roles_ok.ensures ∙ c.if-not-roles_ok.false) (sym c.entries_ok.ensures ∙ c.if-not-entries_ok.true)

pub test_later-requires : goal.test_later-requires
test_later-requires c = let g = c.args in
    ((sizes_few g.p.roles.now g.p.concepts.now g.p.query.now g.p.disjoint.now (sym c.sizes_ok.ensures ∙ c.if-not-sizes_ok.false)).2, c.role_count.ensures.1)

pub returns : goal.returns
returns c = let g = c.args in
    c.test_later.ensures ∙ (ap (λ n. wholly (later_test g.p.concepts.now g.p.query.now g.p.disjoint.now g.t.now (up_to 16 n))) c.role_count.ensures.0 ∙ goes_on g.p.roles.now g.p.concepts.now g.p.query.now g.p.disjoint.now g.t.now (sym c.sizes_ok.ensures ∙ c.if-not-sizes_ok.false) (sym c.roles_ok.ensures ∙ c.if-not-roles_ok.false) (sym c.entries_ok.ensures ∙ c.if-not-entries_ok.false))
