use mathlib.Core.Path.{sym, ◌∙◌}
use Rattle.labels.specs.Labels.{value_of}
use Rattle.evidence.specs.Evidence.{label_of}
use Rattle.list_steps.specs.StepSteps.{by_1, by_2, by_3, by_4, by_5, by_6}
use Rattle.list_steps.specs.StepForm.{rest_is}
use borrow.Author.Rules.{rules}
use Rattle.list_steps.proofs.Record.test_named.Goals as goal

pub returns-in-1 : goal.returns-in-1
returns-in-1 c = let g = c.args in let o = g.self.now in
    c.step_1.ensures ∙ by_1 o.s.layout.marks o.cs.now g.qs.now (label_of o.s.layout o.s.bytes.now) g.ds.now o.i (value_of o.x)
    (search rules) _ (sym c.byte-step.ensures ∙ c.in-1.is)
    c.byte-a.ensures

pub returns-in-2 : goal.returns-in-2
returns-in-2 c = let g = c.args in let o = g.self.now in
    c.step_2.ensures ∙ by_2 o.s.layout.marks o.cs.now g.qs.now (label_of o.s.layout o.s.bytes.now) g.ds.now o.i (value_of o.x)
    (search rules) _ _ (sym c.byte-step.ensures ∙ c.in-2.is)
    c.byte-a.ensures c.byte-b.ensures

pub returns-in-3 : goal.returns-in-3
returns-in-3 c = let g = c.args in let o = g.self.now in
    c.step_3.ensures ∙ by_3 o.s.layout.marks o.cs.now g.qs.now (label_of o.s.layout o.s.bytes.now) g.ds.now o.i (value_of o.x)
    (search rules) _ _ _ (sym c.byte-step.ensures ∙ c.in-3.is)
    c.byte-a.ensures c.byte-b.ensures c.byte-c.ensures

pub returns-in-4 : goal.returns-in-4
returns-in-4 c = let g = c.args in let o = g.self.now in
    c.step_4.ensures ∙ by_4 o.s.layout.marks o.cs.now g.qs.now (label_of o.s.layout o.s.bytes.now) g.ds.now o.i (value_of o.x)
    (search rules) _ _ (sym c.byte-step.ensures ∙ c.in-4.is)
    c.byte-a.ensures c.byte-b.ensures

pub returns-in-5 : goal.returns-in-5
returns-in-5 c = let g = c.args in let o = g.self.now in
    c.step_5.ensures ∙ by_5 o.s.layout.marks o.cs.now g.qs.now (label_of o.s.layout o.s.bytes.now) g.ds.now o.i (value_of o.x)
    (search rules) _ _ _ (sym c.byte-step.ensures ∙ c.in-5.is)
    c.byte-a.ensures c.byte-b.ensures c.byte-c.ensures

pub returns-in_default : goal.returns-in_default
returns-in_default c = let g = c.args in let o = g.self.now in
    let r = c.in_default.in_default-own.rest in
    c.test_rows.ensures ∙ by_6 o.s.layout.marks o.cs.now g.qs.now (label_of o.s.layout o.s.bytes.now) g.ds.now o.i
    (value_of o.x) (search rules) _
    (rest_is o.s.layout.marks g.ds.now (search rules) _ c.byte-step.ensures r.0.0.0.0.1
    r.0.0.0.1 r.0.0.1 r.0.1 r.1) c.byte-a.ensures
