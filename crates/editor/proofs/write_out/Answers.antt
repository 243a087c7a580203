use Rattle.editor.proofs.StateLaws.{writes_state}
use Rattle.editor.proofs.write_out.Goals as goal

pub returns : goal.returns
returns c = let h = writes_state c.args.s c.args.buf.now _ _ c.write_state.ensures in
    record { answer = h.answer; size = h.size; bytes = h.bytes; kept = h.kept; past = h.past }
