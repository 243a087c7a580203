use mathlib.Core.Path.{◌∙◌, sym, refl}
use Rattle.list_form.specs.ListForm.{step_of}
use Rattle.list_form.specs.FormSteps.{step_size, step_counting, step_unknown}
use Rattle.list_form.proofs.step_form.Goals as goal

pub returns-in-1 : goal.returns-in-1
unfolding step_of
returns-in-1 c = λ marks. step_size marks c.args.ds.now 1 2 _ (sym c.byte-step.ensures ∙ c.in-1.is) refl

pub returns-in-2 : goal.returns-in-2
unfolding step_of
returns-in-2 c = λ marks. step_size marks c.args.ds.now 2 3 _ (sym c.byte-step.ensures ∙ c.in-2.is) refl

pub returns-in-3 : goal.returns-in-3
unfolding step_of
returns-in-3 c = λ marks. step_size marks c.args.ds.now 3 4 _ (sym c.byte-step.ensures ∙ c.in-3.is) refl

pub returns-in-4 : goal.returns-in-4
unfolding step_of
returns-in-4 c = λ marks. step_size marks c.args.ds.now 4 3 _ (sym c.byte-step.ensures ∙ c.in-4.is) refl

pub returns-in-5 : goal.returns-in-5
unfolding step_of
returns-in-5 c = λ marks. step_size marks c.args.ds.now 5 4 _ (sym c.byte-step.ensures ∙ c.in-5.is) refl

pub returns-in-6 : goal.returns-in-6
returns-in-6 c = λ marks. c.counting_form.ensures marks ∙ step_counting marks c.args.ds.now _
    (sym c.byte-step.ensures ∙ c.in-6.is) c.byte.ensures

pub returns-in_default : goal.returns-in_default
returns-in_default c = let r = c.in_default.in_default-own.rest in λ marks. step_unknown marks c.args.ds.now _ c.byte-step.ensures
    r.0.0.0.0.0.1 r.0.0.0.0.1 r.0.0.0.1 r.0.0.1 r.0.1 r.1
