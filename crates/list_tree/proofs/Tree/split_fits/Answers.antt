use Prim.Native.Nat.{◌+◌, ◌≤◌, ◌<◌}
use mathlib.Core.Path.{refl}
use native.Mathlib.Omega.{arith}
use borrow.Author.Tests.{lt-ltb, le-ltb}
use Rattle.parts.specs.Numbers.{byte_at}
use Rattle.list_tree.proofs.Tree.split_fits.Goals as goal

pub returns-then-c-ge64 : goal.returns-then-c-ge64
returns-then-c-ge64 c = let a = c.args in let o = a.self.now in let g : 64 ≤ byte_at o.ds.now (a.at + 1) = omega (arith, c.byte-c.ensures) in rw (le-ltb (byte_at o.ds.now (a.at + 1)) 64 g) refl

pub returns : goal.returns
returns c = let a = c.args in let o = a.self.now in let g : c.byte-c.result < 64 = omega arith in rw (← c.byte-c.ensures, ← c.mask2-v.ensures, lt-ltb c.byte-c.result 64 g) refl
