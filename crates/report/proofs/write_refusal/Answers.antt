use Rattle.report.specs.TextLaws.{told_over}
use Rattle.report.proofs.write_refusal.Goals as goal

pub returns : goal.returns
returns c = let w = told_over _ _ _ _ c.lay_refusal.ensures in record { bytes = w.0; size = w.1.0; part = w.1.1 }
