use Rattle.std.specs.Prelude.{◌*◌}
use Rattle.std.proofs.Common.{sym, ◌∙◌, ap, arith}
use Rattle.logic.specs.Tests.{◌⇒◌}
use Rattle.logic.specs.Bounded.{all_below, all_none, all_stop, all_more, all_done}
use Rattle.logic.specs.Sets.{has, within}
use Rattle.line_reader.specs.LineSteps.{mask_at}
use Rattle.line_reader.proofs.pairs.pairs_up.Goals as goal

pub loop-p-init : goal.loop-p-init
loop-p-init c = all_none _

pub returns-then-not-goes_up : goal.returns-then-not-goes_up
returns-then-not-goes_up c = let a = c.args in
    sym (ap (λ k. all_below k (λ q. let m = mask_at a.l.now.bytes.now a.l.now.rows q in has m a.r.0 ⇒ within a.parents m)) (sym c.pair_count-p-end.ensures.0)
    ∙ all_stop _ c.loop-p.p _ c.loop-p-test.true (sym (c.goes_up.ensures ∙ ap (λ m. has m a.r.0 ⇒ within a.parents m) c.mask.ensures) ∙ c.if-not-goes_up.true))

pub loop-p-preserved : goal.loop-p-preserved
loop-p-preserved c = let a = c.args in
    all_more _ c.loop-p.p c.loop-p.invariant (sym (c.goes_up.ensures ∙ ap (λ m. has m a.r.0 ⇒ within a.parents m) c.mask.ensures) ∙ c.if-not-goes_up.false)

pub returns : goal.returns
returns c = let a = c.args in
    sym (ap (λ k. all_below k (λ q. let m = mask_at a.l.now.bytes.now a.l.now.rows q in has m a.r.0 ⇒ within a.parents m)) (sym c.pair_count-p-end.ensures.0)
    ∙ all_done _ c.loop-p.p _ (omega arith) (omega arith) c.loop-p.invariant)
