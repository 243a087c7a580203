use Rattle.std.specs.Prelude.{Some}
use mathlib.Core.Path.{◌≡◌, ◌∙◌, ap, sym}
use mathlib.Core.Option.{Option}
use Rattle.logic.specs.Refusals.{Refusal}
use Rattle.std.proofs.lemmas.Result.{err_from_is_err_and}
use Rattle.labels.specs.Labels.{value_of}
use Rattle.evidence.specs.Evidence.{head_is_graph, head_no_graph}
use Rattle.graph_check.specs.GraphSteps.{records_code, graph_code, head_stop, head_on, forms_stop, forms_on}
use Rattle.graph_check.proofs.test_graph.Goals.{In-Some-GraphOf}
use Rattle.graph_check.proofs.test_graph.Goals as goal

-- the records of a graph, once their number is read
graph : (c : In-Some-GraphOf) → (o : Option Refusal) → (let g = c.args in o ≡ records_code g.o.now.masks g.o.now.count g.o.now.concepts.now g.o.now.query.now (value_of g.want) g.s.now c.in-Some-GraphOf.n)
    → (let g = c.args in o ≡ graph_code g.o.now.masks g.o.now.count g.o.now.concepts.now g.o.now.query.now (value_of g.want) g.s.now)
graph c o e = let g = c.args in
    let k = rw c.in-Some-GraphOf.is at c.in-Some-GraphOf.field-0-is in
    let h = head_is_graph g.s.now c.in-Some-GraphOf.n (sym (c.in-Some-GraphOf.is ∙ ap Some k) ∙ c.read_head-head.ensures.0) in
    e ∙ head_on g.o.now.masks g.o.now.count g.o.now.concepts.now g.o.now.query.now (value_of g.want) g.s.now _ h.0 h.1

pub returns-in_err-test_forms-in-Some-GraphOf : goal.returns-in_err-test_forms-in-Some-GraphOf
returns-in_err-test_forms-in-Some-GraphOf c = let p = err_from_is_err_and c.from_residual.result c.from_residual.ensures.1 in let g = c.args in
    rw (p.1, p.2) (graph (goal.at.returns-in_err-test_forms-in-Some-GraphOf c).In-Some-GraphOf _
    (forms_stop g.o.now.masks g.o.now.count g.o.now.concepts.now g.o.now.query.now (value_of g.want) g.s.now c.in-Some-GraphOf.n _ c.layout_of.ensures _ (sym c.in_err-test_forms-in-Some-GraphOf.ensures)))

pub returns-in_ok-test_forms-in-Some-GraphOf : goal.returns-in_ok-test_forms-in-Some-GraphOf
returns-in_ok-test_forms-in-Some-GraphOf c = let g = c.args in graph (goal.at.returns-in_ok-test_forms-in-Some-GraphOf c).In-Some-GraphOf _
    (c.test_records.ensures ∙ forms_on g.o.now.masks g.o.now.count g.o.now.concepts.now g.o.now.query.now (value_of g.want) g.s.now c.in-Some-GraphOf.n _ c.layout_of.ensures (sym c.in_ok-test_forms-in-Some-GraphOf.ensures))

pub returns-in-Some-RefutationOf : goal.returns-in-Some-RefutationOf
returns-in-Some-RefutationOf c = let k = rw c.in-Some-RefutationOf.is at c.in-Some-RefutationOf.field-0-is in
    head_stop c.args.o.now.masks c.args.o.now.count c.args.o.now.concepts.now c.args.o.now.query.now (value_of c.args.want) c.args.s.now (head_no_graph c.args.s.now _ c.read_head-head.ensures.0
    (λ n e. let z = sym (c.in-Some-RefutationOf.is ∙ ap Some k) ∙ e in absurd cc)) _ c.whole-no_graph.ensures

pub returns-in-None : goal.returns-in-None
returns-in-None c = head_stop c.args.o.now.masks c.args.o.now.count c.args.o.now.concepts.now c.args.o.now.query.now (value_of c.args.want) c.args.s.now
    (head_no_graph c.args.s.now _ c.read_head-head.ensures.0 (λ n e. let z = sym c.in-None.is ∙ e in absurd cc)) _ c.whole-no_graph.ensures
