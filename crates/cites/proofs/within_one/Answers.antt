use mathlib.Core.Path.{◌∙◌}
use Rattle.labels.specs.Labels.{value_of, label_few}
use Rattle.cites.specs.Cites.{one_put}
use borrow.Author.Rules.{rules}
use Rattle.cites.proofs.within_one.Goals as goal

pub returns : goal.returns
returns c = let y = c.label.result in let few = label_few y (search rules) (search rules) in
    c.lies_within.ensures ∙ one_put (value_of y) few _ _ _ _ c.label.ensures c.put.ensures
