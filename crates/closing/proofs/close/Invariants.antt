use Prim.Native.Nat.{◌*◌}
use Rattle.lines.specs.Laying.{Masks}
use Rattle.closing.specs.Steps.{stop_mask}
use Rattle.closing.proofs.close.Given as goal

abbrev pub invariant-loop-k : goal.invariant-loop-k
invariant-loop-k l = Masks l.at (stop_mask l.initial.buf l.at l.n l.t l.k) l.initial.buf (l.n * l.n) l.buf
