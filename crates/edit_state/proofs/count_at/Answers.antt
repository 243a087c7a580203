use mathlib.Core.Path.{◌∙◌, ap}
use Rattle.parts.specs.Numbers.{up_to}
use Rattle.edit_state.proofs.count_at.Goals as goal

pub returns : goal.returns
returns c = (c.up_to.ensures.0 ∙ ap (up_to c.args.most) c.byte.ensures, c.up_to.ensures.1)
