use Rattle.std.proofs.Common.{rules}
use Rattle.evidence.specs.Evidence.{edges_part}
use Rattle.list_check.specs.CheckSteps.{form_of}
use Rattle.list_check.proofs.List.test_forms.Goals as goal

pub returns : goal.returns
returns c = let g = c.args.self.now in c.first_refused.ensures (form_of g.s.layout.marks (edges_part g.s.layout g.s.bytes.now)) (λ i r e. search rules)
