use mathlib.Core.Path.{◌∙◌, sym}
use Rattle.intake.specs.Order.{stops_1, parts_on}
use Rattle.intake.proofs.Answered.{answered}
use Rattle.intake.proofs.test_bytes.Goals as goal

pub returns-then-not-directory_ok : goal.returns-then-not-directory_ok
returns-then-not-directory_ok c = λ tab. answered c.whole.ensures ∙ stops_1 c.args.d.now (sym c.directory_ok.ensures ∙ c.if-not-directory_ok.true)

pub returns : goal.returns
returns c = let g = c.args in λ tab. c.test_parts.ensures ∙ parts_on g.d.now _ _ _ _ g.t.now
    (sym c.directory_ok.ensures ∙ c.if-not-directory_ok.false)
    c.roles_part.ensures c.concepts_part.ensures c.query_part.ensures c.disjoint_part.ensures tab
