use Rattle.std.specs.Prelude.{◌≡◌, ◌+◌, ◌*◌}
use Rattle.closing.specs.Steps.{raised_mask}
use Rattle.lines.specs.Laying.{Masks}
use Rattle.closing.proofs.raise.Given as goal

abbrev pub invariant-loop-i : goal.invariant-loop-i
invariant-loop-i l = (l.p ≡ l.at + 2 * l.i) × Masks l.at (raised_mask l.initial.buf l.at l.t l.a) l.initial.buf l.i l.buf
