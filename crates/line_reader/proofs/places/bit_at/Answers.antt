use Prim.Native.Nat.{◌%◌}
use mathlib.Core.Path.{◌∙◌, ap, sym}
use native.Mathlib.Omega.{arith}
use Rattle.logic.specs.Sets.{has}
use Rattle.lines.proofs.Numerals.{bit_byte, bit_past}
use Rattle.line_reader.proofs.places.bit_at.Goals as goal

pub returns-then-w-before : goal.returns-then-w-before
returns-then-w-before c = λ read k.
    let a = c.args in
    sym (bit_past k a.s.now a.at a.e (λ p. omega (arith, c.shared_slice_known-1.given p)) (omega arith))

pub returns : goal.returns
unfolding has
returns c = λ read k.
    let a = c.args in
    ap (λ n. has n (a.e % 8)) c.byte-m.ensures
    ∙ bit_byte k a.s.now a.at a.e (λ p. omega (arith, c.shared_slice_known-1.given p)) (omega arith)
