use Rattle.tables.specs.Concepts.{even_literal, odd_literal}
use Rattle.tables.proofs.literal_concept.Goals as goal

pub returns-then-l-eq0 : goal.returns-then-l-eq0
returns-then-l-eq0 c = let g = c.args in let t = c.concept_at-concept.ensures in even_literal g.cs.now g.l _ c.if-l-eq0.true t.0 t.1

pub returns : goal.returns
returns c = let g = c.args in let t = c.concept_at-concept.ensures in odd_literal g.cs.now g.l _ _ c.if-l-eq0.false t.0 t.1 c.complement.ensures
