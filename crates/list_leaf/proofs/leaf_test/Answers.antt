use mathlib.Core.Path.{◌∙◌, ap₂}
use mathlib.Core.Bool.{◌&&◌}
use native.Mathlib.Omega.{arith}
use lib.ListN.{length}
use Rattle.list_leaf.specs.Totals.{lower_out, upper_out, totals_fit}
use Rattle.list_leaf.specs.WeightLaws.{leaf_is}
use Rattle.list_leaf.proofs.leaf_test.Goals as goal

pub balanced-fair-requires : goal.balanced-fair-requires
balanced-fair-requires c = (λ i h. c.row_parts-ps.ensures.most i, λ m h. let w = c.split_sums-sums.ensures.0.most m h in omega arith)

pub above_zero-requires : goal.above_zero-requires
above_zero-requires c = let a = c.args in totals_fit a.way.now a.ms.now _ c.totals-both.result (omega arith) c.totals-both.ensures

pub returns : goal.returns
returns c = let a = c.args in let n = length a.ms.now in
    ap₂ ◌&&◌ c.balanced-fair.ensures c.above_zero.ensures
    ∙ leaf_is a.k a.way.now a.ms.now c.row_parts-ps.result c.row_parts-ps.ensures (omega arith) (omega arith) c.split_sums-sums.result c.split_sums-sums.ensures.0 c.split_sums-sums.ensures.1 a.marks.now
    c.totals-both.ensures.small (omega arith) _ _ (lower_out a.way.now a.ms.now n c.totals-both.result (omega arith) c.totals-both.ensures) (upper_out a.way.now a.ms.now n c.totals-both.result (omega arith) c.totals-both.ensures)
