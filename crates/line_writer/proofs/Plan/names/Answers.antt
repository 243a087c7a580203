use mathlib.Core.Path.{◌∙◌, ap}
use Rattle.line_writer.specs.WriteSteps.{names_of}
use Rattle.line_writer.proofs.Plan.names.Goals as goal

pub returns : goal.returns
returns c = let p = c.args.self.now in (c.name_mask.ensures.0 ∙ ap (names_of p.concepts.now) c.label.ensures, rw p.width c.name_mask.ensures.1)
