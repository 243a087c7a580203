use mathlib.Core.Path.{◌∙◌, ap}
use Rattle.line_reader.specs.TruthSteps.{literal_of}
use Rattle.line_reader.proofs.truth.literal_set.Goals as goal

pub returns : goal.returns
returns c = c.literal_of.ensures ∙ ap (λ x. literal_of c.args.l.now.size x c.args.v) c.set_at.ensures
