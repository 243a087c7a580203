use mathlib.Core.Path.{refl}
use native.Mathlib.Omega.{arith}
use Rattle.line_reader.specs.LineSteps.{few_pairs}
use Rattle.line_reader.proofs.places.Line.pair_count.Goals as goal

pub overflow_mul-result : goal.overflow_mul-result
overflow_mul-result c = let l = c.args.self.now in let z = few_pairs 64 l.size l.size l.few l.few in omega arith

pub returns : goal.returns
returns c = let l = c.args.self.now in (refl, few_pairs 64 l.size l.size l.few l.few)
