use Rattle.list_form.specs.FormSteps.{mark_from}
use borrow.Author.Rules.{rules}
use Rattle.list_form.proofs.is_mark.Goals as goal

pub returns : goal.returns
returns c = let g = c.args in mark_from g.marks c.first_mark.result g.b (search rules) c.first_mark.ensures
