use Rattle.std.proofs.Common.{rules, refl, eqb}
use Rattle.std.proofs.lemmas.Iterator.{YieldsList-from_range}
use Rattle.logic.proofs.Ranges.{any_range}
use Rattle.roles.specs.Records.{role_at}
use Rattle.entry_tests.proofs.everys.some_transitive.Goals as goal

pub returns : goal.returns
returns c = any_range (λ i. eqb (role_at c.args.t.now i).transitive 1) _ _ _ _ c.any.ensures.ran
    (YieldsList-from_range 0 _ _ refl refl) (λ x b q e. search rules)
