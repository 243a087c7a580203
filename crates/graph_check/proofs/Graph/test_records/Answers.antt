use Rattle.std.proofs.Common.{◌∙◌, ap, ap₂, rules}
use Rattle.std.proofs.Math.Option.{none}
use Rattle.logic.specs.Refusals.{refuse_from}
use Rattle.labels.specs.Labels.{value_of}
use Rattle.nodes.specs.NodeSteps.{required_set}
use Rattle.graph_check.specs.GraphSteps.{record_for, records_with, records_with_lem}
use Rattle.graph_check.proofs.Graph.test_records.Goals as goal

pub returns : goal.returns
returns c = let g = c.args.self.now in let o = g.o.now in let s = g.s.bytes.now in let f = g.s.layout in
    let src = c.sources-src.result in let first = value_of c.required-first.result in let later = value_of c.required-later.result in
    c.first_refused.ensures (records_with o.masks o.count o.concepts.now src first later f s g.n) (λ i r e. search rules)
    ∙ records_with_lem o.masks o.count o.concepts.now src first later f s g.n c.sources-src.ensures
    ∙ ap₂ (λ x y. refuse_from (record_for o.masks o.count o.concepts.now x y f s g.n) g.n 0 none) c.required-first.ensures
    (c.required-later.ensures ∙ ap (required_set o.query.now) c.empty.ensures)
