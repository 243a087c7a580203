use mathlib.Core.Path.{refl}
use native.Mathlib.Omega.{arith}
use borrow.Author.Tests.{ne_eqb}
use Rattle.list_leaf.proofs.place.Goals as goal

pub returns-else-cell-lt64 : goal.returns-else-cell-lt64
returns-else-cell-lt64 c = (omega arith, λ m p l. rw (ne_eqb 0 m (λ e. omega arith), ne_eqb c.args.cell m (λ e. omega arith)) refl)
