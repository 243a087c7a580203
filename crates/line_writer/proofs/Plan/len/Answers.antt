use native.Mathlib.Omega.{arith}
use Rattle.line_writer.specs.WriteOrder.{product_within}
use Rattle.line_writer.proofs.Plan.len.Goals as goal

pub row_at-requires : goal.row_at-requires
row_at-requires c = let p = c.args.self.now in let h = product_within p.size 255 p.size 255 (omega arith) (omega arith) in omega arith
