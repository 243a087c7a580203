use Rattle.std.proofs.Common.{rules, refl, ap, ◌∙◌}
use Rattle.std.proofs.lemmas.Iterator.{YieldsList-from_range}
use Rattle.logic.specs.Bounded.{all_below}
use Rattle.logic.proofs.Ranges.{all_range}
use Rattle.labels.specs.Labels.{value_of}
use Rattle.evidence.specs.Evidence.{label_of}
use Rattle.fillers.specs.FillerSteps.{least_at}
use Rattle.fillers.proofs.counts_ok.Goals as goal

pub returns : goal.returns
returns c = let p = c.args in let test = least_at p.cs.now (label_of p.t.now.s.layout p.t.now.s.bytes.now) (value_of p.x) p.t.now.es.now in
    all_range test _ _ _ _ c.all.ensures.ran (YieldsList-from_range 0 _ _ refl refl) (λ x b q e. search rules) ∙ ap (λ n. all_below n test) c.entry_count.ensures.0
