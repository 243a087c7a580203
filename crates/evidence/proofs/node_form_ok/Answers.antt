use Rattle.evidence.specs.Evidence.{form_short, form_long}
use Rattle.evidence.proofs.node_form_ok.Goals as goal

pub returns-then-n-w : goal.returns-then-n-w
returns-then-n-w c = form_short c.args.f _ _ c.label_bytes-w.ensures.0 c.if-n-w.true

pub returns-else-n-w : goal.returns-else-n-w
returns-else-n-w c = form_long c.args.f _ _ c.label_bytes-w.ensures.0 c.if-n-w.false
