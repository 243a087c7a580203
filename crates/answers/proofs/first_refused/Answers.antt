use Rattle.std.proofs.Common.{◌∙◌, ap, sym, arith}
use Rattle.std.proofs.lemmas.Result.{err_from_is_err_and}
use Rattle.logic.specs.Refusals.{records_start, records_on, records_stop, records_end}
use Rattle.answers.proofs.first_refused.Goals as goal

pub loop-i-init : goal.loop-i-init
loop-i-init g c = λ p h. records_start p _ _

pub returns-in_err-test : goal.returns-in_err-test
returns-in_err-test g c = λ p h. let q = err_from_is_err_and c.from_residual.result c.from_residual.ensures.1 in
    rw (q.1, q.2) (sym (records_stop p _ _ c.loop-i.i _ (omega arith) (sym (h c.loop-i.i _ c.in_err-test.ensures))) ∙ c.loop-i.invariant p h)

pub loop-i-preserved : goal.loop-i-preserved
loop-i-preserved g c = λ p h. sym (records_on p _ _ c.loop-i.i (omega arith) (sym (h c.loop-i.i _ c.in_ok-test.ensures))) ∙ c.loop-i.invariant p h

pub returns : goal.returns
returns g c = λ p h. sym (records_end p _ _ c.loop-i.i (omega arith)) ∙ c.loop-i.invariant p h
