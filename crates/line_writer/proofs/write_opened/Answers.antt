use mathlib.Core.Path.{refl}
use Rattle.std.proofs.lemmas.Result.{err_from_is_err_and}
use Rattle.line_writer.specs.WriteOrder.{some_record, graph_on, graph_stops}
use Rattle.line_writer.proofs.write_opened.Goals as goal

pub returns-in_err-test_sample : goal.returns-in_err-test_sample
returns-in_err-test_sample c = let a = c.args in let p = err_from_is_err_and c.from_residual.result c.from_residual.ensures.1 in
    rw (p.1, p.2) (graph_stops a.o.now.masks a.o.now.count a.o.now.concepts.now a.o.now.query.now a.s.now a.buf.now _ c.in_err-test_sample.ensures)

pub write_kept-requires : goal.write_kept-requires
write_kept-requires c = let a = c.args in some_record a.o.now.masks a.o.now.count a.o.now.concepts.now a.o.now.query.now a.s.now a.buf.now c.in_ok-test_sample.ensures

pub returns : goal.returns
returns c = let a = c.args in graph_on a.o.now.masks a.o.now.count a.o.now.concepts.now a.o.now.query.now a.s.now a.buf.now c.in_ok-test_sample.ensures _ _ _ refl c.write_kept.ensures
