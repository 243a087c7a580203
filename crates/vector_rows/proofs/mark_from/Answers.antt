use Rattle.std.proofs.Common.{◌≡◌, ◌∙◌, arith}
use Rattle.vector_rows.specs.Rows.{mark_stop, mark_more, mark_end}
use Rattle.vector_rows.proofs.mark_from.Goals as goal

pub returns-then-all-end : goal.returns-then-all-end
returns-then-all-end c = let v = c.loop-end.invariant in (mark_stop _ _ _ c.loop-end-test.true c.if-all-end.true ∙ v.0, v.1)

pub loop-end-preserved : goal.loop-end-preserved
loop-end-preserved c = let v = c.loop-end.invariant in (mark_more _ _ _ c.loop-end-test.true c.if-all-end.false ∙ v.0, omega arith)

pub returns : goal.returns
returns c =
    let v = c.loop-end.invariant in
    let e : c.max.result ≡ c.loop-end.end = omega arith in
    (e ∙ mark_end c.args.mark c.args.all.now _ c.loop-end-test.false ∙ v.0, omega arith)
