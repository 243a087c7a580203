use Prim.Native.Nat.{◌+◌, ◌-◌}
use mathlib.Core.Path.{◌≡◌, ◌∙◌}
use native.Mathlib.Omega.{arith}
use Rattle.labels.specs.Labels.{name_bytes, names_in}
use Rattle.lines.proofs.Numerals.{names}
use Rattle.line_writer.proofs.Pasting.{word_end, end_long, word_laid, put_pasted}
use Rattle.line_writer.proofs.put_names.Goals as goal

pub returns : goal.returns
returns c = let a = c.args in let w = name_bytes a.broad in let e = c.name_bytes-w.ensures in
    let f : c.copy_from_slice.new.self ≡ word_end w a.m = rw (c.to_be_bytes-bytes.ensures, e.0) at c.copy_from_slice.ensures.after in
    let few = (rw e.0 at e.1) in
    rw f (rw (put_pasted a.buf.now (word_end w a.m) a.at (a.at + c.name_bytes-w.result - a.at) (end_long w a.m few ∙ omega arith))
    (word_laid w a.at a.m a.buf.now (names_in a.broad) (names a.broad) few c.requires.0 c.requires.1))
