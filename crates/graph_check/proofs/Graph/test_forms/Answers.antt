use Rattle.std.proofs.Common.{rules}
use Rattle.graph_check.specs.GraphSteps.{form_of}
use Rattle.graph_check.proofs.Graph.test_forms.Goals as goal

pub returns : goal.returns
returns c = let g = c.args.self.now in c.first_refused.ensures (form_of g.s.layout g.s.bytes.now) (λ i r e. search rules)
