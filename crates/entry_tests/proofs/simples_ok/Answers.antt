use Rattle.std.proofs.Common.{rules, refl, ◌∙◌, ap}
use Rattle.std.proofs.lemmas.Iterator.{YieldsList-from_range}
use Rattle.logic.proofs.Ranges.{all_range}
use Rattle.logic.specs.Bounded.{all_below}
use Rattle.entry_tests.specs.Entries.{simple_at}
use Rattle.entry_tests.proofs.simples_ok.Goals as goal

pub returns : goal.returns
returns c = all_range (simple_at c.args.cs.now c.args.t.now) _ _ _ _ c.all.ensures.ran
    (YieldsList-from_range 0 _ _ refl refl) (λ x b q e. search rules)
    ∙ ap (λ m. all_below m (simple_at c.args.cs.now c.args.t.now)) c.entry_count.ensures.0
