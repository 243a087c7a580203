use mathlib.Core.Path.{refl}
use Rattle.cell_walk.proofs.join_if.Goals as goal

pub returns-then-inside : goal.returns-then-inside
returns-then-inside c = rw c.if-inside.true refl
