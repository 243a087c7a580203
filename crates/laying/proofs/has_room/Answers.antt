use Prim.Native.Nat.{◌+◌}
use mathlib.Core.Path.{sym}
use native.Mathlib.Omega.{arith}
use borrow.Author.Tests.{lt-leb}
use Rattle.laying.specs.Laying.{leb_minus}
use Rattle.laying.proofs.has_room.Goals as goal

pub returns-then-room-n : goal.returns-then-room-n
returns-then-room-n c = sym (lt-leb (c.args.at + c.args.n) c.args.room (omega arith))

pub returns : goal.returns
returns c = leb_minus c.args.at c.args.n c.args.room (omega arith)
