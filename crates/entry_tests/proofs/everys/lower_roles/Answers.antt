use Rattle.std.proofs.Common.{◌∙◌, refl, arith}
use Rattle.std.proofs.lemmas.List.{get_or-replicate}
use Rattle.words.specs.Words.{in_word_lem, set_none, set_more, set_done}
use Rattle.roles.specs.Records.{role_at}
use Rattle.entry_tests.specs.Everys.{below_is}
use Rattle.entry_tests.proofs.everys.lower_roles.Goals as goal

pub loop-i-init : goal.loop-i-init
loop-i-init c = λ r h. get_or-replicate 16 r 0 0 h ∙ set_none (λ i. below_is (role_at c.args.t.now i) r)

pub loop-i-preserved : goal.loop-i-preserved
loop-i-preserved c = λ r h. set_more (λ i. below_is (role_at c.args.t.now i) r) _ _ _ _ (c.loop-i.invariant r h)
    (in_word_lem 16 c.loop-i.i _ _ (omega arith) refl) (c.with_role-next.ensures r h)

pub returns : goal.returns
returns c = λ r h. set_done (λ i. below_is (role_at c.args.t.now i) r) _ _ _ (omega arith) (omega arith) (c.loop-i.invariant r h)
