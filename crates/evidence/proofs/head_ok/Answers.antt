use Rattle.evidence.specs.Evidence.{head_read}
use Rattle.evidence.proofs.head_ok.Goals as goal

pub returns : goal.returns
returns c = head_read c.args.s.now _ _ _ c.byte-kind.ensures c.byte-n.ensures c.pairs_fill-filled.ensures
