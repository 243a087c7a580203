use Rattle.std.proofs.Common.{◌∙◌, ap, refl, rules}
use Rattle.answers.specs.Answers.{EMPTY, INHABITED}
use Rattle.list_check.specs.CheckSteps.{list_code}
use Rattle.verdict.specs.VerdictSteps.{told_refused, as_list, as_graph}
use Rattle.verdict.proofs.check_opened.Goals as goal

pub returns-in_err-test_list : goal.returns-in_err-test_list
returns-in_err-test_list c = let g = c.args in
    told_refused EMPTY c.from_residual.result c.in_err-test_list.field-0.0 _ (search rules) c.in_err-test_list.ensures ∙ as_list g.o.now.marks g.o.now.masks g.o.now.count g.o.now.concepts.now g.o.now.query.now g.s.now _ _ c.byte.ensures c.if-byte-eq2.true
    (ap (λ M. list_code g.o.now.marks g.o.now.masks g.o.now.concepts.now g.o.now.query.now M g.s.now) c.root_set.ensures)

pub returns-then-byte-eq2 : goal.returns-then-byte-eq2
returns-then-byte-eq2 c = let g = c.args in
    as_list g.o.now.marks g.o.now.masks g.o.now.count g.o.now.concepts.now g.o.now.query.now g.s.now _ _ c.byte.ensures c.if-byte-eq2.true
    (c.in_ok-test_list.ensures ∙ ap (λ M. list_code g.o.now.marks g.o.now.masks g.o.now.concepts.now g.o.now.query.now M g.s.now) c.root_set.ensures)

pub returns-in_err-test_sample : goal.returns-in_err-test_sample
returns-in_err-test_sample c = let g = c.args in
    told_refused INHABITED c.from_residual-in_err-test_sample.result c.in_err-test_sample.field-0.0 _ (search rules) c.in_err-test_sample.ensures ∙ as_graph g.o.now.marks g.o.now.masks g.o.now.count g.o.now.concepts.now g.o.now.query.now g.s.now _ _ c.byte.ensures
    c.if-byte-eq2.false refl

pub returns : goal.returns
returns c = let g = c.args in
    as_graph g.o.now.marks g.o.now.masks g.o.now.count g.o.now.concepts.now g.o.now.query.now g.s.now _ _ c.byte.ensures c.if-byte-eq2.false c.in_ok-test_sample.ensures
