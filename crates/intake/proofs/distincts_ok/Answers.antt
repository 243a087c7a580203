use Rattle.std.proofs.Common.{rules, refl}
use Rattle.std.proofs.Math.Bool.{not}
use Rattle.std.proofs.lemmas.Iterator.{YieldsList-from_range}
use Rattle.logic.proofs.Ranges.{all_range}
use Rattle.logic.specs.Bounded.{all_below}
use Rattle.entry_tests.specs.Entries.{twin_at}
use Rattle.intake.proofs.distincts_ok.Goals as goal

pub returns : goal.returns
returns c = all_range (λ f. all_below f (λ e. not (twin_at c.args.cs.now f e))) _ _ _ _ c.all.ensures.ran
    (YieldsList-from_range 0 _ _ refl refl) (λ x b q e. search rules)
