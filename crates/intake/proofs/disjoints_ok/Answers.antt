use Rattle.std.proofs.Common.{rules, refl, ◌∙◌, ap}
use Rattle.std.proofs.lemmas.Iterator.{YieldsList-from_range}
use Rattle.logic.proofs.Ranges.{all_range}
use Rattle.logic.specs.Bounded.{all_below}
use Rattle.intake.specs.Steps.{disjoint_kept}
use Rattle.intake.proofs.disjoints_ok.Goals as goal

pub returns : goal.returns
returns c = let a = c.args in
    all_range (disjoint_kept a.ps.now a.t.now a.n) _ _ _ _ c.all.ensures.ran (YieldsList-from_range 0 _ _ refl refl) (λ x b q e. search rules)
    ∙ ap (λ m. all_below m (disjoint_kept a.ps.now a.t.now a.n)) c.disjoint_count.ensures.0
