use mathlib.Core.Path.{◌∙◌, ap}
use Rattle.list_form.specs.ListForm.{step_in}
use Rattle.list_form.specs.FormSteps.{formed}
use Rattle.list_check.proofs.List.form_ok.Goals as goal

pub returns : goal.returns
returns c = let marks = c.args.self.now.s.layout.marks in
    c.step_form.ensures marks ∙ ap (λ ds. formed (step_in marks ds)) c.rest.ensures
