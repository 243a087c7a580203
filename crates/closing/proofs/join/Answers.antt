use Rattle.closing.specs.Rows.{join_mask, row_stays}
use Rattle.lines.specs.Laying.{Masks}
use lib.Bits.{bit_and}
use mathlib.Core.Path.{◌∙◌, sym, ap, subst}
use native.Mathlib.Omega.{arith}
use Rattle.closing.proofs.join.Goals as goal

pub overflow_add-row : goal.overflow_add-row
overflow_add-row c = let l = c.requires.1.first in omega arith

pub returns-then-m-eq0 : goal.returns-then-m-eq0
returns-then-m-eq0 c = let p = c.args in
    row_stays p.row p.from p.n _ p.buf.now (ap (λ m. bit_and m p.t) (sym c.mask2.ensures) ∙ c.if-m-eq0.true)

pub join_row-requires : goal.join_row-requires
join_row-requires c = c.requires.1

pub returns : goal.returns
returns c = let p = c.args in
    subst (λ m. Masks p.row (join_mask p.buf.now p.row p.from (bit_and m p.t)) p.buf.now p.n
    c.join_row.new.buf)
    c.mask2.ensures c.join_row.ensures
