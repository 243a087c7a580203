use mathlib.Core.Path.{refl, sym, ◌∙◌}
use Rattle.list_cells.proofs.ByRow.cell_answer.Goals as goal

pub returns-then-compatible : goal.returns-then-compatible
returns-then-compatible c = let e = sym c.compatible.ensures ∙ c.if-compatible.true in (rw (e, c.known_label.ensures) refl, rw e refl)

pub returns : goal.returns
returns c = let e = sym c.compatible.ensures ∙ c.if-compatible.false in (rw e refl, rw e refl)
