use mathlib.Core.Path.{◌∙◌}
use Rattle.labels.specs.Labels.{octet_read}
use Rattle.labels.proofs.octet.Goals as goal

pub returns : goal.returns
returns c = c.twice.ensures ∙ octet_read c.args.s.now _ _ _ c.four.ensures c.four-2.ensures
