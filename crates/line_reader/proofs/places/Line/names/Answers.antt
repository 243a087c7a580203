use mathlib.Core.Path.{◌∙◌, ap}
use Rattle.labels.specs.Labels.{names_in}
use Rattle.line_reader.proofs.places.Line.names.Goals as goal

pub returns : goal.returns
returns c = let l = c.args.self.now in c.load_names.ensures ∙ ap (names_in l.broad l.bytes.now) c.name_at.ensures.0
