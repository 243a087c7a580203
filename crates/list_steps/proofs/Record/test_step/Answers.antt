use mathlib.Core.Path.{◌≡◌, ◌∙◌, ap}
use mathlib.Core.Bool.{true}
use mathlib.Core.Option.{none}
use Rattle.std.proofs.lemmas.Result.{err_from_is_err_and}
use Rattle.logic.specs.Refusals.{unless, refuse}
use Rattle.labels.specs.Labels.{value_of}
use Rattle.evidence.specs.Evidence.{label_of}
use Rattle.list_form.specs.ListForm.{step_in}
use Rattle.list_form.specs.FormSteps.{formed}
use Rattle.list_steps.specs.StepSteps.{form_on, label_off, label_on}
use Rattle.rows.specs.HeldRows.{without_roles}
use Rattle.list_steps.proofs.Record.test_step.Goals.{In_ok-passes}
use Rattle.list_steps.proofs.Record.test_step.Goals as goal

-- the step has its form
well : (c : In_ok-passes) → formed (step_in c.args.self.now.s.layout.marks c.args.ds.now) ≡ true
well c = let g = c.args in let o = g.self.now in
    form_on (without_roles o.cs.now g.qs.now) (label_of o.s.layout o.s.bytes.now) o.i (value_of o.x) (step_in o.s.layout.marks g.ds.now)
    (c.in_ok-passes.ensures ∙ ap (λ b. refuse o.i (unless b 10 none) none) (c.step_form.ensures o.s.layout.marks))

pub returns-in_err-passes-2 : goal.returns-in_err-passes-2
returns-in_err-passes-2 c = let g = c.args in let o = g.self.now in
    let p = err_from_is_err_and c.from_residual-in_err-passes-2.result c.from_residual-in_err-passes-2.ensures.1 in
    rw (p.1, p.2) (label_off (without_roles o.cs.now g.qs.now) (label_of o.s.layout o.s.bytes.now) o.i (value_of o.x)
    (step_in o.s.layout.marks g.ds.now) _ _ (well (goal.at.returns-in_err-passes-2 c).In_ok-passes) c.in_table.ensures c.in_err-passes-2.ensures)

pub test_named-requires : goal.test_named-requires
test_named-requires c = well (goal.at.test_named-requires c).In_ok-passes

pub returns : goal.returns
returns c = let g = c.args in let o = g.self.now in
    c.test_named.ensures ∙ label_on (without_roles o.cs.now g.qs.now) (label_of o.s.layout o.s.bytes.now) o.i (value_of o.x)
    (step_in o.s.layout.marks g.ds.now) _ (well (goal.at.returns c).In_ok-passes) c.in_table.ensures c.in_ok-passes-2.ensures
