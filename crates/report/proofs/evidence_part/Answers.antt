use mathlib.Core.Path.{◌∙◌}
use Rattle.report.specs.Input.{evidence_rest}
use Rattle.report.proofs.evidence_part.Goals as goal

pub returns : goal.returns
returns c = c.span.ensures ∙ evidence_rest c.args.input.now _ c.read2.ensures.0
