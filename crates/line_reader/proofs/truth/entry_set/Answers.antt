use mathlib.Core.Path.{refl, ◌∙◌}
use Rattle.line_reader.specs.LineSteps.{sized}
use Rattle.line_reader.specs.TruthSteps.{concept_set, concept_read}
use Rattle.line_reader.proofs.truth.entry_set.Goals as goal

pub returns-in-Top : goal.returns-in-Top
unfolding concept_set
returns-in-Top c = let a = c.args in let l = a.l.now in concept_read a.cs.now (sized l.broad l.bytes.now l.size) a.t.now a.e.0 _ _ _ c.in-Top.is c.concept_at-c.ensures.0
    c.full_set.ensures

pub returns-in-Name : goal.returns-in-Name
unfolding concept_set
returns-in-Name c = let a = c.args in let l = a.l.now in concept_read a.cs.now (sized l.broad l.bytes.now l.size) a.t.now a.e.0 _ _ _ c.in-Name.is c.concept_at-c.ensures.0
    c.named_set.ensures

pub returns-in-Both : goal.returns-in-Both
unfolding concept_set
returns-in-Both c = let a = c.args in let l = a.l.now in concept_read a.cs.now (sized l.broad l.bytes.now l.size) a.t.now a.e.0 _ _ _ c.in-Both.is c.concept_at-c.ensures.0
    (rw (c.literal_set.ensures, c.literal_set-in-Both.ensures) refl)

pub returns-in-Every : goal.returns-in-Every
unfolding concept_set
returns-in-Every c = let a = c.args in let l = a.l.now in concept_read a.cs.now (sized l.broad l.bytes.now l.size) a.t.now a.e.0 _ _ _ c.in-Every.is c.concept_at-c.ensures.0
    (c.every_set.ensures ∙ rw (c.literal_set-in-Every.ensures, c.args.l.now.behind) refl)

pub returns-in-AtLeast : goal.returns-in-AtLeast
unfolding concept_set
returns-in-AtLeast c = let a = c.args in let l = a.l.now in concept_read a.cs.now (sized l.broad l.bytes.now l.size) a.t.now a.e.0 _ _ _ c.in-AtLeast.is c.concept_at-c.ensures.0
    (c.least_set.ensures ∙ rw (c.literal_set-in-AtLeast.ensures, c.args.l.now.behind) refl)
