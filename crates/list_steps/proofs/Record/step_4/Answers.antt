use Rattle.std.specs.Prelude.{◌+◌, length, ltb}
use mathlib.Core.Path.{refl, sym}
use Rattle.std.proofs.lemmas.Result.{err_from_is_err_and}
use Rattle.labels.specs.Labels.{value_of}
use Rattle.evidence.specs.Evidence.{label_of}
use Rattle.refutation.specs.Records.{by_rule}
use Rattle.rows.specs.HeldRows.{without_roles}
use Rattle.list_steps.specs.StepSteps.{named_16, named_17, rule_in_lem, cite_4, follows_4}
use Rattle.std.proofs.Common.{◌∙◌}
use Rattle.list_steps.proofs.Cited.{twice}
use Rattle.list_steps.proofs.Record.step_4.Goals as goal

pub returns-in_err-cites : goal.returns-in_err-cites
returns-in_err-cites c = let g = c.args in let o = g.self.now in
    let p = err_from_is_err_and c.from_residual.result c.from_residual.ensures.1 in
    rw (p.1, p.2) (named_16 (without_roles o.cs.now g.qs.now) (label_of o.s.layout o.s.bytes.now) o.i (value_of o.x) (by_rule g.q g.c) _ _
    (twice (ltb (g.q + 1) (length g.qs.now)) (ltb g.c o.i) ∙ sym (cite_4 o.cs.now g.qs.now (label_of o.s.layout o.s.bytes.now) o.i (value_of o.x) g.q g.c _ _ (rule_in_lem o.cs.now g.qs.now (label_of o.s.layout o.s.bytes.now) o.i (value_of o.x) g.q) refl))
    c.in_err-cites.ensures)

pub returns : goal.returns
returns c = let g = c.args in let o = g.self.now in
    named_17 (without_roles o.cs.now g.qs.now) (label_of o.s.layout o.s.bytes.now) o.i (value_of o.x) (by_rule g.q g.c) _ _ _
    (twice (ltb (g.q + 1) (length g.qs.now)) (ltb g.c o.i) ∙ sym (cite_4 o.cs.now g.qs.now (label_of o.s.layout o.s.bytes.now) o.i (value_of o.x) g.q g.c _ _ (rule_in_lem o.cs.now g.qs.now (label_of o.s.layout o.s.bytes.now) o.i (value_of o.x) g.q) refl))
    (sym (follows_4 o.cs.now g.qs.now (label_of o.s.layout o.s.bytes.now) o.i (value_of o.x) g.q g.c _ _ _ refl
    c.byte.ensures (sym c.within_one.ensures)))
    c.in_ok-cites.ensures c.passes.ensures
