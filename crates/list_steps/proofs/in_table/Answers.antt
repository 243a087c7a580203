use mathlib.Core.Path.{◌∙◌}
use borrow.Author.Rules.{rules}
use Rattle.labels.specs.Labels.{value_of, label_few}
use Rattle.list_steps.specs.StepSteps.{table_wide}
use Rattle.list_steps.proofs.in_table.Goals as goal

pub returns : goal.returns
returns c = let g = c.args in
    c.below.ensures ∙ table_wide g.cs.now (value_of g.x) _ (label_few g.x (search rules) (search rules)) c.entry_count.ensures.0
