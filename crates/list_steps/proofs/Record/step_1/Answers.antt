use mathlib.Core.Path.{sym}
use mathlib.Core.List.{[]}
use Rattle.std.proofs.lemmas.Result.{err_from_is_err_and}
use Rattle.labels.specs.Labels.{value_of}
use Rattle.description.specs.Literals.{literal}
use Rattle.refutation.specs.Records.{contradiction}
use Rattle.rows.specs.HeldRows.{without_roles}
use Rattle.list_steps.specs.StepSteps.{named_16, named_17, cite_1, follows_1}
use Rattle.list_steps.proofs.Record.step_1.Goals as goal

pub returns-in_err-passes : goal.returns-in_err-passes
returns-in_err-passes c = let g = c.args in let o = g.self.now in
    let p = err_from_is_err_and c.from_residual.result c.from_residual.ensures.1 in
    rw (p.1, p.2) (named_16 (without_roles o.cs.now []) (λ j. 0) o.i (value_of o.x) (contradiction (literal g.l)) _ _
    (sym (cite_1 o.cs.now [] (λ j. 0) o.i (value_of o.x) g.l _ (sym c.entry_in.ensures)))
    c.in_err-passes.ensures)

pub returns : goal.returns
returns c = let g = c.args in let o = g.self.now in
    named_17 (without_roles o.cs.now []) (λ j. 0) o.i (value_of o.x) (contradiction (literal g.l)) _ _ _
    (sym (cite_1 o.cs.now [] (λ j. 0) o.i (value_of o.x) g.l _ (sym c.entry_in.ensures)))
    (sym (follows_1 o.cs.now [] (λ j. 0) o.i (value_of o.x) g.l _ _ _ c.opposite.ensures (sym c.in_label.ensures) (sym c.in_label-2.ensures)))
    c.in_ok-passes.ensures c.passes-2.ensures
