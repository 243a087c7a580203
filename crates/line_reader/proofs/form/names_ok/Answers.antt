use Rattle.std.proofs.Common.{rules, refl}
use Rattle.std.proofs.lemmas.Iterator.{YieldsList-from_range}
use Rattle.logic.proofs.Ranges.{all_range}
use Rattle.line_reader.proofs.form.names_ok.Goals as goal

pub returns : goal.returns
returns c = all_range _ _ _ _ _ c.all.ensures.ran (YieldsList-from_range 0 _ _ refl refl) (λ x b q e. search rules)
