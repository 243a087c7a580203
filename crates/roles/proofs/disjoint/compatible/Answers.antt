use Rattle.std.specs.Prelude.{◌+◌, not, get_or}
use Rattle.std.proofs.Common.{sym, ◌∙◌, ap, arith}
use Rattle.logic.specs.Sets.{within}
use Rattle.logic.specs.Bounded.{all_below, all_none, all_stop, all_more, all_done}
use Rattle.roles.proofs.disjoint.compatible.Goals as goal

pub loop-i-init : goal.loop-i-init
loop-i-init c = all_none _

pub returns-then-is_within : goal.returns-then-is_within
returns-then-is_within c = sym (ap (λ k. all_below k (λ i. not (within (get_or c.args.a.now (32 + i) 0) c.args.m))) (sym c.few-i-end.ensures.0)
    ∙ all_stop _ c.loop-i.i _ c.loop-i-test.true (ap not (sym c.is_within.ensures ∙ c.if-is_within.true)))

pub loop-i-preserved : goal.loop-i-preserved
loop-i-preserved c = all_more _ c.loop-i.i c.loop-i.invariant (ap not (sym c.is_within.ensures ∙ c.if-is_within.false))

pub returns : goal.returns
returns c = sym (ap (λ k. all_below k (λ i. not (within (get_or c.args.a.now (32 + i) 0) c.args.m))) (sym c.few-i-end.ensures.0)
    ∙ all_done _ c.loop-i.i _ (omega arith) (omega arith) c.loop-i.invariant)
