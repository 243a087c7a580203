use Rattle.std.proofs.Common.{rules, refl, ◌∙◌, ap, arith}
use Rattle.std.proofs.lemmas.List.{get_or-replicate}
use Rattle.entry_tests.specs.Everys.{everys_to, everys_none, everys_more}
use Rattle.entry_tests.proofs.everys.everys_of.Goals as goal

pub loop-e-init : goal.loop-e-init
loop-e-init c = everys_none _ _ (search rules) (λ l h. get_or-replicate 128 l 0 0 h)

pub loop-e-preserved : goal.loop-e-preserved
loop-e-preserved c = everys_more _ _ _ _ _ _ c.fields_at-g.ensures.0 refl c.with_every.ensures c.loop-e.invariant

pub returns : goal.returns
returns c = λ l h. c.loop-e.invariant.at l h ∙ ap (λ m. everys_to c.args.cs.now m l) (omega (arith, c.entry_count-n.ensures.0))
