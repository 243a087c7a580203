use Rattle.std.proofs.Common.{◌≡◌, refl, arith, rules, of_calls, Ok, Err}
use Rattle.vector_rows.proofs.Parts.{next_part}
use Rattle.vector_rows.proofs.run_parts.Goals as goal

pub returns-in_err-step : goal.returns-in_err-step
returns-in_err-step g c =
    let v = c.loop-at.invariant in
    let e = next_part c.args.mark c.args.all.now c.loop-at.at c.mark_from-end.result (omega arith) c.mark_from-end.ensures.0 in
    let r : c.from_residual.result ≡ Err c.in_err-step.field-0.0 = search rules in
    v.2 _ (rw e (Err c.in_err-step.field-0.0, c.step.new.self, record { shown = _; shows = refl; called = c.in_err-step.ensures }, r))

pub loop-at-preserved : goal.loop-at-preserved
loop-at-preserved g c =
    let v = c.loop-at.invariant in
    let e = next_part c.args.mark c.args.all.now c.loop-at.at c.mark_from-end.result (omega arith) c.mark_from-end.ensures.0 in
    (search of_calls, omega arith, λ r h. v.2 r (rw e (Ok c.in_ok-step.field-0, c.step.new.self, record { shown = _; shows = refl; called = c.in_ok-step.ensures }, h)))
