use borrow.Author.Rules.{rules}
use Rattle.rows.proofs.Made.{each_made}
use Rattle.labels.specs.Labels.{value_of, no_label}
use Rattle.logic.specs.Sets.{has}
use mathlib.Core.Bool.{◌&&◌}
use Rattle.cell_labels.specs.CellShows.{Puts}
use Rattle.cell_labels.specs.CellRows.{mask_at, label_at, put_told}
use Rattle.cell_labels.proofs.with_passed.Goals as goal

pub returns : goal.returns
returns c = let g = c.args in let r = c.from_fn.ensures.items in
    record {
      size = r.long;
      at = each_made (λ i b. Puts (label_at g.old i) (value_of b) (λ l. has (mask_at g.above i) g.t.0 && has (value_of g.y) l)) no_label
          (λ i b q e. search (rules, put_told)) c.from_fn.result 6 r;
    }
