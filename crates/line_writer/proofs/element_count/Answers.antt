use native.Mathlib.Omega.{arith}
use Rattle.line_writer.specs.WriteOrder.{product_within}
use Rattle.line_writer.proofs.element_count.Goals as goal

pub overflow_mul-result : goal.overflow_mul-result
overflow_mul-result c = let h = product_within c.args.n 255 c.args.k 2097120 (omega arith) (omega arith) in omega arith
