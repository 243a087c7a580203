use mathlib.Core.Path.{◌∙◌}
use Rattle.labels.specs.Labels.{value_of, label_few}
use Rattle.list_steps.specs.StepSteps.{past_case, case_odd, case_even}
use borrow.Author.Rules.{rules}
use Rattle.list_steps.proofs.holds_case.Goals as goal

pub returns-then-e-ge-MOST_ENTRIES : goal.returns-then-e-ge-MOST_ENTRIES
returns-then-e-ge-MOST_ENTRIES c = let g = c.args in let few = label_few g.x (search rules) (search rules) in past_case (value_of g.x) g.e.0 few g.denied c.if-e-ge-MOST_ENTRIES.true

pub returns-then-denied : goal.returns-then-denied
returns-then-denied c = let g = c.args in c.holds.ensures ∙ case_odd (value_of g.x) g.e.0 g.denied c.if-denied.true

pub returns : goal.returns
returns c = let g = c.args in c.holds-2.ensures ∙ case_even (value_of g.x) g.e.0 g.denied c.if-denied.false
