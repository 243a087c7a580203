use mathlib.Core.Path.{◌∙◌, ap, sym}
use Rattle.std.proofs.lemmas.Result.{err_from_is_err_and}
use Rattle.answers.specs.Answers.{refusal_of}
use Rattle.line_writer.proofs.WriteOrder.{write_opened, write_refused_lem}
use Rattle.line_writer.proofs.write_interpretation.Goals as goal

pub returns-in_err-o : goal.returns-in_err-o
returns-in_err-o c = let p = err_from_is_err_and c.from_residual.result c.from_residual.ensures.1 in
    let w = write_refused_lem c.args.d.now c.args.s.now c.args.buf.now _ (sym (ap refusal_of c.in_err-o.was) ∙ c.open_description-o.ensures.tested) in
    rw (p.1, p.2) (record { answer = w.0; size = w.1.0; bytes = w.1.1 })

pub returns : goal.returns
returns c = let o = c.open_description-o.ensures in
    let w = write_opened c.args.d.now c.args.s.now c.args.buf.now _ _ _ _ _ _ (sym (ap refusal_of c.in_ok-o.was) ∙ o.tested) o.masks o.count o.concepts o.query c.write_opened.ensures in
    record { answer = w.0; size = w.1.0; bytes = w.1.1 }
