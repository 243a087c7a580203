use Rattle.std.specs.Prelude.{◌&&◌, ltb}
use Rattle.std.proofs.Common.{sym, ◌∙◌, ap, ap₂}
use Rattle.std.proofs.Math.Option.{some}
use Rattle.answers.specs.Answers.{numbered}
use Rattle.logic.specs.Refusals.{test_passes, test_refuses}
use Rattle.cites.specs.Cites.{is_earlier, is_bad}
use Rattle.list_steps.proofs.Cited.{both_off, first_off}
use Rattle.list_steps.proofs.Record.cites.Goals as goal

pub returns-then-not-test : goal.returns-then-not-test
returns-then-not-test c = let i = c.args.self.now.i in
    ap (λ z. some (numbered z)) c.at.ensures ∙ sym (test_refuses i 16 _ (ap (λ b. b && (ltb c.args.c i && ltb c.args.d i)) c.if-not-test.true))

pub returns-in_default : goal.returns-in_default
returns-in_default c = let i = c.args.self.now.i in
    ap (λ z. some (numbered z)) c.at-in_default.ensures ∙ sym (test_refuses i 16 _ (first_off c.args.test _ _ (is_bad i c.args.c _ c.look_up.ensures.0 c.in_default.is)))

pub returns-in_default-look_up : goal.returns-in_default-look_up
returns-in_default-look_up c = let i = c.args.self.now.i in
    ap (λ z. some (numbered z)) c.at-in_default-look_up.ensures ∙ sym (test_refuses i 16 _ (both_off c.args.test (ltb c.args.c i) _ (is_bad i c.args.d _ c.look_up-2.ensures.0 c.in_default-look_up.is)))

pub returns : goal.returns
returns c = let i = c.args.self.now.i in
    sym (test_passes i 16 _ (ap₂ (λ a b. a && b) c.if-not-test.false
    (ap₂ (λ a b. a && b) (is_earlier i c.args.c _ _ c.look_up.ensures.0 c.in-Some.is).0 (is_earlier i c.args.d _ _ c.look_up-2.ensures.0 c.in-Some-look_up.is).0)))
