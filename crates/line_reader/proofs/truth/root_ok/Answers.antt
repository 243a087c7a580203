use mathlib.Core.Path.{◌∙◌, ap}
use lib.Dec.{ltb}
use Rattle.logic.specs.Sets.{nonempty}
use Rattle.line_reader.specs.TruthSteps.{literal_set}
use Rattle.line_reader.proofs.truth.root_ok.Goals as goal

pub returns : goal.returns
unfolding nonempty
returns c = ap (ltb 0) (c.literal_set.ensures ∙ ap (literal_set c.args.l.now.size c.args.t.now) c.byte.ensures)
