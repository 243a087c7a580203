use Rattle.std.proofs.lemmas.Result.{err_from_is_err_and}
use mathlib.Core.Path.{sym, ◌∙◌}
use Rattle.labels.specs.Labels.{value_of}
use Rattle.evidence.specs.Evidence.{label_of}
use Rattle.list_check.specs.CheckSteps.{step_stops, step_few, step_counts, step_plain}
use Rattle.list_check.proofs.List.test_labelled.Goals as goal

pub returns-in_err-test_step : goal.returns-in_err-test_step
returns-in_err-test_step c = let g = c.args in let o = g.self.now in let p = err_from_is_err_and c.from_residual.result c.from_residual.ensures.1 in
    rw (p.1, p.2) (step_stops o.s.layout.marks o.o.now.masks o.o.now.concepts.now o.o.now.query.now (label_of o.s.layout o.s.bytes.now)
    g.i (value_of g.x) g.ds.now _ (sym c.in_err-test_step.ensures))

pub test_count-requires : goal.test_count-requires
test_count-requires c = let g = c.args in let o = g.self.now in
    step_few o.s.layout.marks o.o.now.masks o.o.now.concepts.now o.o.now.query.now (label_of o.s.layout o.s.bytes.now) g.i (value_of g.x) g.ds.now
    (sym c.in_ok-test_step.ensures)
    _ _ c.byte.ensures c.if-byte-eq6.true c.byte-then-byte-eq6.ensures

pub returns-then-byte-eq6 : goal.returns-then-byte-eq6
returns-then-byte-eq6 c = let g = c.args in let o = g.self.now in
    c.test_count.ensures ∙ step_counts o.s.layout.marks o.o.now.masks o.o.now.concepts.now o.o.now.query.now (label_of o.s.layout o.s.bytes.now) g.i
    (value_of g.x) g.ds.now (sym c.in_ok-test_step.ensures) _ _ c.byte.ensures
    c.if-byte-eq6.true c.byte-then-byte-eq6.ensures

pub returns : goal.returns
returns c = let g = c.args in let o = g.self.now in
    step_plain o.s.layout.marks o.o.now.masks o.o.now.concepts.now o.o.now.query.now (label_of o.s.layout o.s.bytes.now) g.i (value_of g.x) g.ds.now
    (sym c.in_ok-test_step.ensures) _
    c.byte.ensures c.if-byte-eq6.false
