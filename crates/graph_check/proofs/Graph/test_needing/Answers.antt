use Rattle.std.proofs.Common.{◌∙◌, ap}
use Rattle.std.proofs.Math.Option.{none}
use Rattle.logic.specs.Refusals.{refuse}
use Rattle.graph_check.specs.GraphSteps.{record_with}
use Rattle.graph_check.proofs.Graph.test_needing.Goals as goal

pub returns : goal.returns
returns c = let g = c.args.self.now in let o = g.o.now in let i = c.args.i in c.test_record.ensures
    ∙ ap (λ K. refuse i (record_with o.masks o.count o.concepts.now c.args.src.now K g.s.layout g.s.bytes.now g.n i) none) c.need_of.ensures
