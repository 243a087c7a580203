use mathlib.Core.Path.{refl, sym}
use mathlib.Core.List.{[]}
use Rattle.std.proofs.lemmas.Result.{err_from_is_err_and}
use Rattle.labels.specs.Labels.{value_of}
use Rattle.evidence.specs.Evidence.{label_of}
use Rattle.refutation.specs.Records.{case_split}
use Rattle.rows.specs.HeldRows.{without_roles}
use Rattle.list_steps.specs.StepSteps.{named_16, named_17, cite_5, follows_5}
use Rattle.list_steps.proofs.Record.step_5.Goals as goal

pub returns-in_err-cites : goal.returns-in_err-cites
returns-in_err-cites c = let g = c.args in let o = g.self.now in
    let p = err_from_is_err_and c.from_residual.result c.from_residual.ensures.1 in
    rw (p.1, p.2) (named_16 (without_roles o.cs.now []) (label_of o.s.layout o.s.bytes.now) o.i (value_of o.x) (case_split g.e.0 g.c g.d) _ _
    (sym (cite_5 o.cs.now [] (label_of o.s.layout o.s.bytes.now) o.i (value_of o.x) g.e.0 g.c g.d _ _ _ (sym c.entry_in.ensures)
    refl refl))
    c.in_err-cites.ensures)

pub returns : goal.returns
returns c = let g = c.args in let o = g.self.now in
    named_17 (without_roles o.cs.now []) (label_of o.s.layout o.s.bytes.now) o.i (value_of o.x) (case_split g.e.0 g.c g.d) _ _ _
    (sym (cite_5 o.cs.now [] (label_of o.s.layout o.s.bytes.now) o.i (value_of o.x) g.e.0 g.c g.d _ _ _ (sym c.entry_in.ensures)
    refl refl))
    (sym (follows_5 o.cs.now [] (label_of o.s.layout o.s.bytes.now) o.i (value_of o.x) g.e.0 g.c g.d _ _ _ _ refl refl
    (sym c.within_case-held.ensures) (sym c.within_case.ensures)))
    c.in_ok-cites.ensures c.passes.ensures
