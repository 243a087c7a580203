use mathlib.Core.Path.{sym, ◌∙◌, ap}
use Rattle.line_reader.specs.LineSteps.{up_by, no_parents}
use Rattle.line_reader.proofs.pairs.included_at.Goals as goal

pub returns-then-parents-eq0 : goal.returns-then-parents-eq0
returns-then-parents-eq0 c = no_parents c.args.rs.now c.args.l.now.bytes.now _ _ _ (sym c.mask2-parents.ensures ∙ c.if-parents-eq0.true)

pub returns-else-parents-eq0 : goal.returns-else-parents-eq0
returns-else-parents-eq0 c = let l = c.args.l.now in c.pairs_up.ensures ∙ ap (λ m. up_by l.bytes.now l.rows l.size c.args.r.0 m) c.mask2-parents.ensures
