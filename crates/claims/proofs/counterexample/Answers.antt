use mathlib.Core.Path.{◌∙◌, ap}
use Rattle.labels.specs.Labels.{label_with}
use Rattle.claims.proofs.counterexample.Goals as goal

pub returns : goal.returns
returns c = let l = c.args.k.c in c.put.ensures ∙ ap (λ N. label_with N l)
    (c.only.ensures ∙ ap (label_with 0) c.opposite.ensures)
