use native.Mathlib.Omega.{arith}
use Rattle.evidence.specs.Evidence.{edges_inside, edges_none, edges_past}
use Rattle.evidence.proofs.Stored.rest.Goals as goal

pub returns-then-to-from : goal.returns-then-to-from
returns-then-to-from c = edges_none c.args.self.now.layout _ _ _ _ _ c.read2-from.ensures.0 c.read2.ensures.0 c.label_bytes-w.ensures.0 (omega arith)

pub returns-then-s-to : goal.returns-then-s-to
returns-then-s-to c = edges_past c.args.self.now.layout _ _ _ _ _ c.read2-from.ensures.0 c.read2.ensures.0 c.label_bytes-w.ensures.0 (omega arith) (omega arith)

pub returns : goal.returns
returns c = edges_inside c.args.self.now.layout _ _ _ _ _ c.read2-from.ensures.0 c.read2.ensures.0 c.label_bytes-w.ensures.0 (omega arith) (omega arith)
