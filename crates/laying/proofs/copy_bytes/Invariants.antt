use Rattle.std.proofs.Common.{◌≡◌, ◌+◌, ◌≤◌, length}
use Rattle.std.proofs.Math.Seq.{paste}
use Rattle.laying.proofs.copy_bytes.Given as goal

-- there is room, and the first i bytes are copied
abbrev pub invariant-loop-i : goal.invariant-loop-i
invariant-loop-i l = (length l.buf ≡ length l.initial.buf) × (l.buf ≡ paste l.initial.buf l.at l.src l.i)
    × (l.at + length l.src ≤ length l.initial.buf)
