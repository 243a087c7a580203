use mathlib.Core.Path.{◌∙◌}
use Rattle.evidence.specs.Evidence.{label_of, edges_part}
use Rattle.list_check.specs.CheckSteps.{record_read}
use Rattle.list_check.proofs.List.test_record.Goals as goal

pub returns : goal.returns
returns c = let g = c.args in let o = g.self.now in
    c.test_labelled.ensures ∙ record_read o.s.layout.marks o.o.now.masks o.o.now.concepts.now o.o.now.query.now (label_of o.s.layout o.s.bytes.now)
    (edges_part o.s.layout o.s.bytes.now) g.i _ _ c.label-x.ensures c.rest.ensures
