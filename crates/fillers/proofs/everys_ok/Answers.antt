use Prim.Native.Nat.{ℕ}
use Rattle.std.proofs.Common.{rules, refl, ap, ◌∙◌}
use Rattle.std.specs.Prelude.{Bool, get_or}
use Rattle.std.proofs.lemmas.Iterator.{YieldsList-from_range}
use Rattle.logic.specs.Bounded.{all_below}
use Rattle.logic.proofs.Ranges.{all_range}
use Rattle.labels.specs.Labels.{value_of}
use Rattle.labels.specs.Words.{meet, entries_of}
use Rattle.evidence.specs.Evidence.{label_of}
use Rattle.fillers.specs.FillerSteps.{every_with}
use Rattle.fillers.proofs.everys_ok.Goals as goal

pub returns : goal.returns
unfolding meet
returns c = let p = c.args in
    let test : ℕ → Bool = λ e. every_with p.cs.now (label_of p.t.now.s.layout p.t.now.s.bytes.now) (meet (entries_of (value_of p.x)) (get_or p.src.now e 0)) (value_of p.x) p.t.now.es.now e in
    all_range test _ _ _ _ c.all.ensures.ran (YieldsList-from_range 0 _ _ refl refl) (λ x b q e. search rules) ∙ ap (λ n. all_below n test) c.entry_count.ensures.0
