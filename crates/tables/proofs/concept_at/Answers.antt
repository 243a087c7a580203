use mathlib.Core.Path.{◌∙◌, ap}
use native.Mathlib.Omega.{arith}
use Rattle.tables.specs.Concepts.{concept_from, as_top, as_name, as_both_lem, as_every, as_least}
use Rattle.tables.proofs.concept_at.Goals as goal

pub returns-in-0 : goal.returns-in-0
returns-in-0 c = (as_top _ c.in-0.is ∙ ap concept_from c.fields_at-f.ensures.0, omega (arith, c.fields_at-f.ensures.1))

pub returns-in-1 : goal.returns-in-1
returns-in-1 c = (as_name _ c.in-1.is ∙ ap concept_from c.fields_at-f.ensures.0, omega (arith, c.fields_at-f.ensures.1))

pub returns-in-2 : goal.returns-in-2
returns-in-2 c = (as_both_lem _ c.in-2.is ∙ ap concept_from c.fields_at-f.ensures.0, omega (arith, c.fields_at-f.ensures.1))

pub returns-in-3 : goal.returns-in-3
returns-in-3 c = (as_every _ c.in-3.is ∙ ap concept_from c.fields_at-f.ensures.0, omega (arith, c.fields_at-f.ensures.1))

pub returns-in_default : goal.returns-in_default
returns-in_default c = (let r = c.in_default.in_default-own.rest in as_least _ r.0.0.0.1 r.0.0.1 r.0.1 r.1 ∙ ap concept_from c.fields_at-f.ensures.0, omega (arith, c.fields_at-f.ensures.1))
