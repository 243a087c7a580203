use Rattle.std.proofs.lemmas.Result.{err_from_is_err_and}
use mathlib.Core.Path.{sym, ◌∙◌}
use Rattle.labels.specs.Labels.{value_of}
use Rattle.evidence.specs.Evidence.{label_of, edges_part}
use Rattle.list_check.specs.CheckSteps.{forms_stop, rules_stop, rules_end}
use Rattle.list_check.proofs.List.test_all.Goals as goal

pub returns-in_err-test_forms : goal.returns-in_err-test_forms
returns-in_err-test_forms c = let g = c.args in let o = g.self.now in let p = err_from_is_err_and c.from_residual.result c.from_residual.ensures.1 in
    rw (p.1, p.2) (forms_stop o.s.layout.marks o.o.now.masks o.o.now.concepts.now o.o.now.query.now (value_of g.want)
    (label_of o.s.layout o.s.bytes.now) (edges_part o.s.layout o.s.bytes.now) g.n _ (sym c.in_err-test_forms.ensures))

pub returns-in_err-test_records : goal.returns-in_err-test_records
returns-in_err-test_records c = let g = c.args in let o = g.self.now in
    let p = err_from_is_err_and c.from_residual-in_err-test_records.result c.from_residual-in_err-test_records.ensures.1 in
    rw (p.1, p.2) (rules_stop o.s.layout.marks o.o.now.masks o.o.now.concepts.now o.o.now.query.now (value_of g.want)
    (label_of o.s.layout o.s.bytes.now) (edges_part o.s.layout o.s.bytes.now) g.n (sym c.in_ok-test_forms.ensures) _ (sym c.in_err-test_records.ensures))

pub returns : goal.returns
returns c = let g = c.args in let o = g.self.now in
    c.test_end.ensures ∙ rules_end o.s.layout.marks o.o.now.masks o.o.now.concepts.now o.o.now.query.now (value_of g.want) (label_of o.s.layout o.s.bytes.now)
    (edges_part o.s.layout o.s.bytes.now) g.n (sym c.in_ok-test_forms.ensures) (sym c.in_ok-test_records.ensures)
