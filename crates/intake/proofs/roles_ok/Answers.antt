use Rattle.std.proofs.Common.{rules, refl}
use Rattle.std.proofs.lemmas.Iterator.{YieldsList-from_range}
use Rattle.logic.proofs.Ranges.{all_range}
use Rattle.intake.specs.Steps.{role_kept}
use Rattle.intake.proofs.roles_ok.Goals as goal

pub returns : goal.returns
returns c = all_range (role_kept c.args.rs.now) _ _ _ _ c.all.ensures.ran (YieldsList-from_range 0 _ _ refl refl) (λ x b q e. search rules)
