use borrow.Author.Rules.{rules}
use Rattle.rows.specs.HeldRows.{given}
use Rattle.cell_labels.proofs.OfRows.{six_of}
use Rattle.cell_labels.specs.CellRows.{denied_by}
use Rattle.cell_labels.proofs.against_of.Goals as goal

pub returns : goal.returns
returns c = let g = c.args in let w = c.of_rows.ensures in
    six_of g.rows.now.held g.rows.now.count (λ R. denied_by (given R)) c.of_rows.result w.0
    (λ i l. let e = w.1 0 i l in (λ h. search rules, λ h. e.1 h))
