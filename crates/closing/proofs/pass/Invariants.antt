use Rattle.closing.specs.Steps.{via_mask}
use Rattle.lines.specs.Laying.{Masks}
use Prim.Native.Nat.{◌*◌}
use Rattle.closing.proofs.pass.Given as goal

abbrev pub invariant-loop-x : goal.invariant-loop-x
invariant-loop-x l = Masks l.at (via_mask l.initial.buf l.at l.n l.k l.t) l.initial.buf (l.x * l.n) l.buf
