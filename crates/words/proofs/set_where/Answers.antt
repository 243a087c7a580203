use Rattle.std.proofs.Common.{refl, ◌∙◌, ap, arith}
use Rattle.words.specs.Words.{set_none, set_more, put_in, in_word_lem}
use Rattle.words.proofs.set_where.Goals as goal

pub loop-i-init : goal.loop-i-init
loop-i-init g c = λ p h l. set_none p

pub loop-i-preserved : goal.loop-i-preserved
loop-i-preserved g c = λ p h l. set_more p c.loop-i.i _ _ c.test.result (c.loop-i.invariant p h l) (h c.loop-i.i c.test.result c.test.ensures) (c.put-out.ensures ∙ ap (put_in _ _) (in_word_lem 64 c.loop-i.i _ _ (omega (arith, l, c.loop-i-test.true)) refl))
