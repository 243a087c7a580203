use mathlib.Core.Path.{◌∙◌}
use mir.ValLaws.{to_z-of_z}
use mir.Syntax.{w32}
use Rattle.list_leaf.specs.Gap.{gap_is, gap_fits}
use Rattle.list_leaf.proofs.gap.Goals as goal

pub overflow_sub-result : goal.overflow_sub-result
overflow_sub-result c = gap_fits c.args.low c.args.up c.requires.0 c.requires.1

pub returns : goal.returns
returns c = to_z-of_z w32 _ (gap_fits c.args.low c.args.up c.requires.0 c.requires.1) ∙ gap_is c.args.low c.args.up c.requires.0 c.requires.1
