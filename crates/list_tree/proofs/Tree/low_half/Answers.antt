use mathlib.Core.Path.{refl}
use Rattle.list_tree.proofs.Tree.low_half.Goals as goal

pub returns : goal.returns
returns c = rw (c.mask2.ensures, c.byte.ensures) refl
