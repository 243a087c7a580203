use Prim.Native.Nat.{◌+◌, ◌%◌, ◌<◌}
use mathlib.Core.Path.{refl, sym, ◌∙◌}
use borrow.Author.Tests.{leb-true, lt-ltb}
use native.Mathlib.Omega.{arith}
use lib.ListN.{length}
use Rattle.laying.specs.Laying.{laid_past}
use borrow.Author.Rules.{rules}
use Rattle.edit_lay.proofs.lay_parent.Goals as goal

pub returns-then-not-has_room : goal.returns-then-not-has_room
returns-then-not-has_room c = laid_past _ _ _ (sym c.has_room.ensures ∙ c.if-not-has_room.true)

pub overflow_add-at : goal.overflow_add-at
overflow_add-at c = let a = c.args in let h = leb-true (a.at + 3) (length a.buf.now)
    (sym c.has_room.ensures ∙ c.if-not-has_room.false) in search rules

pub returns : goal.returns
returns c = let h : c.args.p.0 % 16 < 16 = omega arith in
    rw (c.lay_role.ensures, c.byte-transitive.ensures, c.put-parents.ensures, c.mask2.ensures, lt-ltb _ _ h) refl
