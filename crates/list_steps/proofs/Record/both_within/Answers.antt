use mathlib.Core.Path.{refl, sym, ◌∙◌, ap}
use Rattle.logic.specs.Sets.{within}
use Rattle.description.specs.Literals.{literal, literal_code, adding}
use Rattle.evidence.specs.Evidence.{label_of}
use Rattle.labels.specs.Labels.{value_of}
use Rattle.list_steps.specs.StepSteps.{as_both, both_asked}
use Rattle.list_steps.proofs.Record.both_within.Goals as goal

pub returns-in-Both : goal.returns-in-Both
returns-in-Both c = let g = c.args in let o = g.self.now in c.within_two.ensures ∙ ap (as_both (λ a b. within (label_of o.s.layout o.s.bytes.now g.c) (adding (adding (value_of o.x) (literal a)) (literal b)))) (sym c.in-Both.is) ∙ both_asked o.cs.now g.e.0 (λ a b. within (label_of o.s.layout o.s.bytes.now g.c) (adding (adding (value_of o.x) (literal a)) (literal b))) (λ a b. within (label_of o.s.layout o.s.bytes.now g.c) (adding (adding (value_of o.x) a) b)) _ (λ a b. rw (literal_code a, literal_code b) refl) c.concept_at.ensures.0

pub returns-in-Top : goal.returns-in-Top
returns-in-Top c = let g = c.args in let o = g.self.now in ap (as_both (λ a b. within (label_of o.s.layout o.s.bytes.now g.c) (adding (adding (value_of o.x) (literal a)) (literal b)))) (sym c.in-Top.is) ∙ both_asked o.cs.now g.e.0 (λ a b. within (label_of o.s.layout o.s.bytes.now g.c) (adding (adding (value_of o.x) (literal a)) (literal b))) (λ a b. within (label_of o.s.layout o.s.bytes.now g.c) (adding (adding (value_of o.x) a) b)) _ (λ a b. rw (literal_code a, literal_code b) refl) c.concept_at.ensures.0

pub returns-in-Name : goal.returns-in-Name
returns-in-Name c = let g = c.args in let o = g.self.now in ap (as_both (λ a b. within (label_of o.s.layout o.s.bytes.now g.c) (adding (adding (value_of o.x) (literal a)) (literal b)))) (sym c.in-Name.is) ∙ both_asked o.cs.now g.e.0 (λ a b. within (label_of o.s.layout o.s.bytes.now g.c) (adding (adding (value_of o.x) (literal a)) (literal b))) (λ a b. within (label_of o.s.layout o.s.bytes.now g.c) (adding (adding (value_of o.x) a) b)) _ (λ a b. rw (literal_code a, literal_code b) refl) c.concept_at.ensures.0

pub returns-in-Every : goal.returns-in-Every
returns-in-Every c = let g = c.args in let o = g.self.now in ap (as_both (λ a b. within (label_of o.s.layout o.s.bytes.now g.c) (adding (adding (value_of o.x) (literal a)) (literal b)))) (sym c.in-Every.is) ∙ both_asked o.cs.now g.e.0 (λ a b. within (label_of o.s.layout o.s.bytes.now g.c) (adding (adding (value_of o.x) (literal a)) (literal b))) (λ a b. within (label_of o.s.layout o.s.bytes.now g.c) (adding (adding (value_of o.x) a) b)) _ (λ a b. rw (literal_code a, literal_code b) refl) c.concept_at.ensures.0

pub returns-in-AtLeast : goal.returns-in-AtLeast
returns-in-AtLeast c = let g = c.args in let o = g.self.now in ap (as_both (λ a b. within (label_of o.s.layout o.s.bytes.now g.c) (adding (adding (value_of o.x) (literal a)) (literal b)))) (sym c.in-AtLeast.is) ∙ both_asked o.cs.now g.e.0 (λ a b. within (label_of o.s.layout o.s.bytes.now g.c) (adding (adding (value_of o.x) (literal a)) (literal b))) (λ a b. within (label_of o.s.layout o.s.bytes.now g.c) (adding (adding (value_of o.x) a) b)) _ (λ a b. rw (literal_code a, literal_code b) refl) c.concept_at.ensures.0
