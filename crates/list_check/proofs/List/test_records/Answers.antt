use Rattle.std.proofs.Common.{rules}
use Rattle.evidence.specs.Evidence.{label_of, edges_part}
use Rattle.list_check.specs.CheckSteps.{record_code}
use Rattle.list_check.proofs.List.test_records.Goals as goal

pub returns : goal.returns
returns c = let g = c.args.self.now in let o = g.o.now in
    c.first_refused.ensures (record_code g.s.layout.marks o.masks o.concepts.now o.query.now (label_of g.s.layout g.s.bytes.now) (edges_part g.s.layout g.s.bytes.now))
    (λ i r e. search rules)
