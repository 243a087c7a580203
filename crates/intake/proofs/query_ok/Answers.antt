use Rattle.std.proofs.Common.{rules, ◌∙◌, ltb}
use Rattle.std.proofs.lemmas.Iterator.{YieldsList-from_slice}
use Rattle.std.proofs.lemmas.Iterator.Search.{all_from_yields_List}
use Rattle.intake.proofs.Listed.{all_bytes}
use Rattle.intake.proofs.query_ok.Goals as goal

pub returns : goal.returns
returns c = all_from_yields_List (λ x. ltb x c.args.limit) _ _ _ c.all.ensures.ran (YieldsList-from_slice c.args.qs.now c.iter.ensures.rest) (λ x b q e. search rules)
    ∙ all_bytes (λ x. ltb x c.args.limit) c.args.qs.now
