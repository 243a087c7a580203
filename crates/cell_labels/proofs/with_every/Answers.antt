use mathlib.Core.Path.{refl}
use Rattle.labels.specs.Labels.{value_of}
use Rattle.cell_labels.specs.CellRows.{grown_other, grown_every, every_concept, other_concept}
use Rattle.cell_labels.proofs.with_every.Goals as goal

pub returns-then-g-eq3 : goal.returns-then-g-eq3
returns-then-g-eq3 c = let a = c.args in let g = c.fields_at-g in
    grown_every a.cs.now a.m.now (value_of a.x) a.above a.f.0 a.old _ _ refl refl c.with_passed.result
    (record { 0 = g.result.role }) g.result.first (value_of c.passed_by-shown.result)
    (every_concept a.cs.now a.f.0 _ g.ensures.0 c.if-g-eq3.true) c.passed_by-shown.ensures c.with_passed.ensures

pub returns-else-g-eq3 : goal.returns-else-g-eq3
returns-else-g-eq3 c = let a = c.args in
    grown_other a.cs.now a.m.now (value_of a.x) a.above a.f.0 a.old _ _ refl refl c.requires.0
    (other_concept a.cs.now a.f.0 _ c.fields_at-g.ensures.0 c.if-g-eq3.false)
