use mathlib.Core.Path.{◌≡◌, ◌∙◌, sym}
use mathlib.Core.Option.{Option, none}
use Rattle.logic.specs.Refusals.{Refusal, refuse}
use Rattle.labels.specs.Labels.{value_of}
use Rattle.evidence.specs.Evidence.{label_of}
use Rattle.graph_check.specs.GraphSteps.{node_with, record_with, stops_11, stops_12, stops_13, goes_on, record_read}
use Rattle.graph_check.proofs.Graph.test_record.Goals.{After-rest-es}
use Rattle.graph_check.proofs.Graph.test_record.Goals as goal

-- what the tests of the record that was read say, once it is known to be record i
read : (c : After-rest-es) (o : Option Refusal)
    → (let g = c.args.self.now in o ≡ refuse c.args.i (node_with g.o.now.masks g.o.now.count g.o.now.concepts.now c.args.src.now (value_of c.args.need) (label_of g.s.layout g.s.bytes.now) g.n (value_of c.label-x.result) c.rest-es.result.now) none)
    → (let g = c.args.self.now in o ≡ refuse c.args.i (record_with g.o.now.masks g.o.now.count g.o.now.concepts.now c.args.src.now (value_of c.args.need) g.s.layout g.s.bytes.now g.n c.args.i) none)
read c o e = let g = c.args.self.now in e ∙ record_read g.o.now.masks g.o.now.count g.o.now.concepts.now c.args.src.now (value_of c.args.need) g.s.layout g.s.bytes.now g.n c.args.i _ _ c.label-x.ensures c.rest-es.ensures

pub returns-then-not-label_ok : goal.returns-then-not-label_ok
returns-then-not-label_ok c = read (goal.at.returns-then-not-label_ok c).After-rest-es _
    (stops_11 _ _ _ c.args.src.now _ (label_of c.args.self.now.s.layout c.args.self.now.s.bytes.now) c.args.self.now.n c.args.i _ _ (sym c.label_ok.ensures ∙ c.if-not-label_ok.true) _ c.at.ensures)

pub returns-then-not-boths_ok : goal.returns-then-not-boths_ok
returns-then-not-boths_ok c = read (goal.at.returns-then-not-boths_ok c).After-rest-es _
    (stops_12 _ _ _ c.args.src.now _ (label_of c.args.self.now.s.layout c.args.self.now.s.bytes.now) c.args.self.now.n c.args.i _ _ (sym c.label_ok.ensures ∙ c.if-not-label_ok.false) (sym c.boths_ok.ensures ∙ c.if-not-boths_ok.true) _ c.at-then-not-boths_ok.ensures)

pub returns-then-not-edges_ok : goal.returns-then-not-edges_ok
returns-then-not-edges_ok c = read (goal.at.returns-then-not-edges_ok c).After-rest-es _
    (stops_13 _ _ _ c.args.src.now _ (label_of c.args.self.now.s.layout c.args.self.now.s.bytes.now) c.args.self.now.n c.args.i _ _ (sym c.label_ok.ensures ∙ c.if-not-label_ok.false) (sym c.boths_ok.ensures ∙ c.if-not-boths_ok.false) (sym c.edges_ok.ensures ∙ c.if-not-edges_ok.true)
    _ c.at-then-not-edges_ok.ensures)

pub returns : goal.returns
returns c = read (goal.at.returns c).After-rest-es _ (c.test_fillers.ensures
    ∙ goes_on _ _ _ c.args.src.now _ (label_of c.args.self.now.s.layout c.args.self.now.s.bytes.now) c.args.self.now.n c.args.i _ _ (sym c.label_ok.ensures ∙ c.if-not-label_ok.false) (sym c.boths_ok.ensures ∙ c.if-not-boths_ok.false) (sym c.edges_ok.ensures ∙ c.if-not-edges_ok.false))
