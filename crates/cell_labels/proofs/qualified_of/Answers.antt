use mathlib.Core.Path.{◌∙◌, ap}
use borrow.Author.Rules.{rules}
use Rattle.labels.specs.Labels.{value_of, label_with, no_label}
use Rattle.cell_labels.proofs.OfRows.{six_of}
use Rattle.cell_labels.proofs.qualified_of.Goals as goal

pub returns : goal.returns
returns c = let g = c.args in let w = c.of_rows.ensures in
    six_of g.rows.now.held g.rows.now.count (λ R. label_with 0 R.qualifier) c.of_rows.result w.0
    (λ i l. let e = w.1 no_label i l in (λ h. search rules, λ h. ap value_of (e.1 h) ∙ c.empty.ensures))
