use Rattle.std.proofs.Common.{rules, refl, ap, ◌∙◌}
use Rattle.std.proofs.lemmas.Iterator.{YieldsList-from_range}
use Rattle.logic.specs.Bounded.{all_below}
use Rattle.logic.proofs.Ranges.{all_range}
use Rattle.labels.specs.Labels.{value_of}
use Rattle.nodes.specs.NodeSteps.{both_at}
use Rattle.nodes.proofs.boths_ok.Goals as goal

pub returns : goal.returns
returns c = let test = both_at c.args.cs.now (value_of c.args.x) in
    all_range test _ _ _ _ c.all.ensures.ran (YieldsList-from_range 0 _ _ refl refl) (λ x b q e. search rules) ∙ ap (λ n. all_below n test) c.entry_count.ensures.0
