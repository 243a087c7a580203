use mathlib.Core.Path.{◌∙◌, ap}
use lib.IntN.{pos}
use lib.Signed.{lt_z}
use mir.Val.{to_z, of_z}
use mir.ValLaws.{to_z-of_z}
use mir.Syntax.{w32}
use Rattle.list_leaf.specs.Gap.{size_fits}
use Rattle.list_leaf.proofs.above_zero.Goals as goal

pub returns : goal.returns
returns c = let a = c.args in ap (lt_z (pos 0)) (ap (λ z. to_z w32 (of_z w32 z)) c.gap-g.ensures ∙ to_z-of_z w32 _ (size_fits a.low a.up c.requires.0 c.requires.1))
