use mathlib.Core.Path.{refl}
use native.Mathlib.Numerals.{add-one}
use Rattle.list_tree.proofs.Tree.high_half.Goals as goal

pub returns : goal.returns
returns c = rw (c.mask2.ensures, c.byte.ensures, add-one) refl
