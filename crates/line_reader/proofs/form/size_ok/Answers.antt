use native.Mathlib.Omega.{arith}
use Rattle.line_reader.specs.LineSteps.{few_pairs}
use Rattle.line_reader.proofs.form.size_ok.Goals as goal

pub overflow_mul-result : goal.overflow_mul-result
overflow_mul-result c = let z = few_pairs 255 c.args.d c.args.d (omega arith) (omega arith) in omega arith

pub overflow_mul-result-2 : goal.overflow_mul-result-2
overflow_mul-result-2 c = let z = few_pairs 255 c.args.d c.args.d (omega arith) (omega arith) in omega arith

pub overflow_add-result : goal.overflow_add-result
overflow_add-result c = let z = few_pairs 255 c.args.d c.args.d (omega arith) (omega arith) in omega arith
