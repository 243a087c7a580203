use Rattle.std.specs.Prelude.{ltb}
use mathlib.Core.Path.{refl, sym}
use mathlib.Core.List.{[]}
use Rattle.std.proofs.lemmas.Result.{err_from_is_err_and}
use Rattle.labels.specs.Labels.{value_of}
use Rattle.evidence.specs.Evidence.{label_of}
use Rattle.refutation.specs.Records.{conjunction}
use Rattle.rows.specs.HeldRows.{without_roles}
use Rattle.list_steps.specs.StepSteps.{named_16, named_17, cite_2, follows_2}
use Rattle.std.proofs.Common.{◌∙◌}
use Rattle.list_steps.proofs.Cited.{twice}
use Rattle.list_steps.proofs.Record.step_2.Goals as goal

pub returns-in_err-cites : goal.returns-in_err-cites
returns-in_err-cites c = let g = c.args in let o = g.self.now in
    let p = err_from_is_err_and c.from_residual.result c.from_residual.ensures.1 in
    rw (p.1, p.2) (named_16 (without_roles o.cs.now []) (label_of o.s.layout o.s.bytes.now) o.i (value_of o.x) (conjunction g.e.0 g.c) _ _
    (twice c.entry_in.result (ltb g.c o.i) ∙ sym (cite_2 o.cs.now [] (label_of o.s.layout o.s.bytes.now) o.i (value_of o.x) g.e.0 g.c _ _ (sym c.entry_in.ensures) refl))
    c.in_err-cites.ensures)

pub returns : goal.returns
returns c = let g = c.args in let o = g.self.now in
    named_17 (without_roles o.cs.now []) (label_of o.s.layout o.s.bytes.now) o.i (value_of o.x) (conjunction g.e.0 g.c) _ _ _
    (twice c.entry_in.result (ltb g.c o.i) ∙ sym (cite_2 o.cs.now [] (label_of o.s.layout o.s.bytes.now) o.i (value_of o.x) g.e.0 g.c _ _ (sym c.entry_in.ensures) refl))
    (sym (follows_2 o.cs.now [] (label_of o.s.layout o.s.bytes.now) o.i (value_of o.x) g.e.0 g.c _ _ _ refl
    (sym c.holds_case.ensures) (sym c.both_within.ensures)))
    c.in_ok-cites.ensures c.passes.ensures
