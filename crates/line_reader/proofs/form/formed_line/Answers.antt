use Prim.Native.Nat.{ℕ}
use mathlib.Core.Path.{◌≡◌, ◌∙◌, ap, sym}
use mathlib.Core.Bool.{◌&&◌}
use mathlib.Core.List.{List}
use mathlib.Core.Option.{Option}
use Rattle.std.specs.Prelude.{is_some}
use Rattle.tables.specs.Tables.{describe}
use Rattle.lines.specs.Lines.{line_test}
use Rattle.line_reader.specs.LineSteps.{line_stops, line_goes_on}
use Rattle.line_reader.proofs.form.formed_line.Goals.{After-masks_ok-masks}
use Rattle.line_reader.proofs.form.formed_line.Goals as goal

-- a line of the right size is tested by its masks
tested : (c : After-masks_ok-masks) → (qs : List ℕ) (p : Option (List ℕ))
    → (c.names_ok-names.result && c.masks_ok-masks.result) ≡ line_test (describe c.args.rs.now c.args.cs.now qs p) c.args.s.now
tested c qs p = let a = c.args in let l = c.in_ok-line.line in let f = c.in_ok-line.ensures.line in
    line_goes_on a.rs.now a.cs.now l.bytes.now l.broad (f.1 ∙ c.requires.1) l.size l.rows _ _ _
    (rw (f.1, f.0) (sym c.in_ok-line.ensures.size)) (rw f.0 f.2) l.behind c.name_set.ensures c.names_ok-names.ensures c.masks_ok-masks.ensures qs p
    ∙ ap (line_test (describe a.rs.now a.cs.now qs p)) f.0

pub returns-in_err-line-clause-form : goal.returns-in_err-line-clause-form
returns-in_err-line-clause-form c = λ qs p. ap is_some c.from_residual.ensures
    ∙ line_stops c.args.rs.now c.args.cs.now c.args.s.now c.args.broad c.requires.1 (sym c.in_err-line.ensures.size) qs p

pub returns-then-names-masks-clause-form : goal.returns-then-names-masks-clause-form
returns-then-names-masks-clause-form c = λ qs p. sym c.if-names-masks.true ∙ tested (goal.at.returns-then-names-masks-clause-form c).After-masks_ok-masks qs p

pub returns-else-names-masks-clause-form : goal.returns-else-names-masks-clause-form
returns-else-names-masks-clause-form c = λ qs p. sym c.if-names-masks.false ∙ tested (goal.at.returns-else-names-masks-clause-form c).After-masks_ok-masks qs p
