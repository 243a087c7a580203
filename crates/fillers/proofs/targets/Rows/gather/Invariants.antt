use Rattle.evidence.specs.Evidence.{label_of}
use Rattle.fillers.specs.Gathered.{Gathering}
use Rattle.fillers.proofs.targets.Rows.gather.Given as goal

abbrev pub invariant-loop-j : goal.invariant-loop-j
invariant-loop-j l = Gathering (label_of l.s.layout l.s.bytes.now) l.es l.self.masks l.self.counts l.self.words l.j
