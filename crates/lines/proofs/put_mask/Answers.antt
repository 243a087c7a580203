use native.Mathlib.Omega.{arith}
use lib.ListN.{length-set}
use Rattle.lines.proofs.Laying.{laid_two}
use Rattle.lines.proofs.put_mask.Goals as goal

pub bounds-buf-at-2 : goal.bounds-buf-at-2
bounds-buf-at-2 c = rw length-set (omega arith)

pub returns : goal.returns
returns c = laid_two c.args.buf.now c.args.at _ _ c.args.m (omega arith) (rw c.to_be_bytes.ensures (omega arith))
