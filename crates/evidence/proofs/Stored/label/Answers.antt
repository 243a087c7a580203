use Rattle.evidence.specs.Evidence.{label_read}
use Rattle.evidence.proofs.Stored.label.Goals as goal

pub returns : goal.returns
returns c = label_read c.args.self.now.layout c.args.self.now.bytes.now _ _ _
    c.record_start.ensures.0 c.load.ensures
