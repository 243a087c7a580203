use Rattle.std.specs.Prelude.{Some, None, Ok, Err}
use Rattle.std.proofs.Common.{refl, sym, ◌∙◌, ap, ap₂, rules}
use Rattle.labels.specs.Labels.{label_with}
use Rattle.logic.specs.Refusals.{first_of}
use Rattle.graph_check.specs.GraphSteps.{graph_code}
use Rattle.list_check.specs.CheckSteps.{list_code}
use Rattle.claims.specs.declared.Pieces.TheVariants.{ListAndGraph, GraphAlone, ListAlone}
use Rattle.claims.proofs.ClaimSteps.{literals_stop, kinds_stop, pieces_stop, pieces_pass}
use Rattle.claims.proofs.check_opened.Goals as goal

pub returns-in_err-test_literals : goal.returns-in_err-test_literals
returns-in_err-test_literals c = let g = c.args in
    literals_stop g.o.now.marks g.o.now.masks g.o.now.count g.o.now.concepts.now g.o.now.query.now g.k.c g.k.d g.first.now g.second.now c.from_residual.result c.in_err-test_literals.field-0.0 (search rules) c.in_err-test_literals.ensures

pub returns-in_err-kinds : goal.returns-in_err-kinds
returns-in_err-kinds c = let g = c.args in
    kinds_stop g.o.now.marks g.o.now.masks g.o.now.count g.o.now.concepts.now g.o.now.query.now g.k.c g.k.d g.first.now g.second.now c.from_residual-in_err-kinds.result c.in_err-kinds.field-0.0 (search rules) c.in_ok-test_literals.ensures c.in_err-kinds.ensures

pub returns-in_err-test_list-in-ListAndGraph : goal.returns-in_err-test_list-in-ListAndGraph
returns-in_err-test_list-in-ListAndGraph c = let g = c.args in
    pieces_stop g.o.now.marks g.o.now.masks g.o.now.count g.o.now.concepts.now g.o.now.query.now g.k.c g.k.d g.first.now g.second.now c.from_residual-in_err-test_list-in-ListAndGraph.result c.in_err-test_list-in-ListAndGraph.field-0.0 (search rules)
    c.in_ok-test_literals.ensures ListAndGraph (sym (ap Ok c.in-ListAndGraph.is) ∙ c.in_ok-kinds.ensures)
    (ap (λ o. first_of o (graph_code g.o.now.masks g.o.now.count g.o.now.concepts.now g.o.now.query.now (label_with 0 g.k.c) g.second.now)) (c.in_err-test_list-in-ListAndGraph.ensures ∙ ap (λ M. list_code g.o.now.marks g.o.now.masks g.o.now.concepts.now g.o.now.query.now M g.first.now) c.counterexample.ensures))

pub returns-in_err-test_graph-in-ListAndGraph : goal.returns-in_err-test_graph-in-ListAndGraph
returns-in_err-test_graph-in-ListAndGraph c = let g = c.args in
    pieces_stop g.o.now.marks g.o.now.masks g.o.now.count g.o.now.concepts.now g.o.now.query.now g.k.c g.k.d g.first.now g.second.now c.from_residual-in_err-test_graph-in-ListAndGraph.result c.in_err-test_graph-in-ListAndGraph.field-0.0 (search rules)
    c.in_ok-test_literals.ensures ListAndGraph (sym (ap Ok c.in-ListAndGraph.is) ∙ c.in_ok-kinds.ensures)
    (c.in_err-test_graph-in-ListAndGraph.ensures ∙ ap (λ M. graph_code g.o.now.masks g.o.now.count g.o.now.concepts.now g.o.now.query.now M g.second.now) c.only.ensures ∙ ap (λ o. first_of o (graph_code g.o.now.masks g.o.now.count g.o.now.concepts.now g.o.now.query.now (label_with 0 g.k.c) g.second.now)) (c.in_ok-test_list-in-ListAndGraph.ensures ∙ ap (λ M. list_code g.o.now.marks g.o.now.masks g.o.now.concepts.now g.o.now.query.now M g.first.now) c.counterexample.ensures))

pub returns-in_ok-test_graph-in-ListAndGraph : goal.returns-in_ok-test_graph-in-ListAndGraph
returns-in_ok-test_graph-in-ListAndGraph c = let g = c.args in
    pieces_pass g.o.now.marks g.o.now.masks g.o.now.count g.o.now.concepts.now g.o.now.query.now g.k.c g.k.d g.first.now g.second.now c.in_ok-test_literals.ensures ListAndGraph (sym (ap Ok c.in-ListAndGraph.is) ∙ c.in_ok-kinds.ensures)
    (ap₂ first_of (c.in_ok-test_list-in-ListAndGraph.ensures ∙ ap (λ M. list_code g.o.now.marks g.o.now.masks g.o.now.concepts.now g.o.now.query.now M g.first.now) c.counterexample.ensures) (c.in_ok-test_graph-in-ListAndGraph.ensures ∙ ap (λ M. graph_code g.o.now.masks g.o.now.count g.o.now.concepts.now g.o.now.query.now M g.second.now) c.only.ensures))

pub returns-in_err-test_graph-in-GraphAlone : goal.returns-in_err-test_graph-in-GraphAlone
returns-in_err-test_graph-in-GraphAlone c = let g = c.args in
    pieces_stop g.o.now.marks g.o.now.masks g.o.now.count g.o.now.concepts.now g.o.now.query.now g.k.c g.k.d g.first.now g.second.now c.from_residual-in_err-test_graph-in-GraphAlone.result c.in_err-test_graph-in-GraphAlone.field-0.0 (search rules)
    c.in_ok-test_literals.ensures GraphAlone (sym (ap Ok c.in-GraphAlone.is) ∙ c.in_ok-kinds.ensures)
    (c.in_err-test_graph-in-GraphAlone.ensures ∙ ap (λ M. graph_code g.o.now.masks g.o.now.count g.o.now.concepts.now g.o.now.query.now M g.first.now) c.counterexample-in-GraphAlone.ensures)

pub returns-in_ok-test_graph-in-GraphAlone : goal.returns-in_ok-test_graph-in-GraphAlone
returns-in_ok-test_graph-in-GraphAlone c = let g = c.args in
    pieces_pass g.o.now.marks g.o.now.masks g.o.now.count g.o.now.concepts.now g.o.now.query.now g.k.c g.k.d g.first.now g.second.now c.in_ok-test_literals.ensures GraphAlone (sym (ap Ok c.in-GraphAlone.is) ∙ c.in_ok-kinds.ensures)
    (c.in_ok-test_graph-in-GraphAlone.ensures ∙ ap (λ M. graph_code g.o.now.masks g.o.now.count g.o.now.concepts.now g.o.now.query.now M g.first.now) c.counterexample-in-GraphAlone.ensures)

pub returns-in_err-test_list-in-ListAlone : goal.returns-in_err-test_list-in-ListAlone
returns-in_err-test_list-in-ListAlone c = let g = c.args in
    pieces_stop g.o.now.marks g.o.now.masks g.o.now.count g.o.now.concepts.now g.o.now.query.now g.k.c g.k.d g.first.now g.second.now c.from_residual-in_err-test_list-in-ListAlone.result c.in_err-test_list-in-ListAlone.field-0.0 (search rules)
    c.in_ok-test_literals.ensures ListAlone (sym (ap Ok c.in-ListAlone.is) ∙ c.in_ok-kinds.ensures)
    (c.in_err-test_list-in-ListAlone.ensures ∙ ap (λ M. list_code g.o.now.marks g.o.now.masks g.o.now.concepts.now g.o.now.query.now M g.first.now) c.only-in-ListAlone.ensures)

pub returns-in_ok-test_list-in-ListAlone : goal.returns-in_ok-test_list-in-ListAlone
returns-in_ok-test_list-in-ListAlone c = let g = c.args in
    pieces_pass g.o.now.marks g.o.now.masks g.o.now.count g.o.now.concepts.now g.o.now.query.now g.k.c g.k.d g.first.now g.second.now c.in_ok-test_literals.ensures ListAlone (sym (ap Ok c.in-ListAlone.is) ∙ c.in_ok-kinds.ensures)
    (c.in_ok-test_list-in-ListAlone.ensures ∙ ap (λ M. list_code g.o.now.marks g.o.now.masks g.o.now.concepts.now g.o.now.query.now M g.first.now) c.only-in-ListAlone.ensures)
