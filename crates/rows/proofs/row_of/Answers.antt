use borrow.Author.Rules.{rules}
use Rattle.rows.proofs.HeldRows.{row_read}
use Rattle.rows.proofs.row_of.Goals as goal

pub returns-in-Is : goal.returns-in-Is
returns-in-Is c = let g = c.args in row_read g.cs.now g.l _ _ _ c.literal_concept-concept.ensures.0 c.in-Is.is (search rules)

pub returns-in-Not : goal.returns-in-Not
returns-in-Not c = let g = c.args in row_read g.cs.now g.l _ _ _ c.literal_concept-concept.ensures.0 c.in-Not.is (search rules)
