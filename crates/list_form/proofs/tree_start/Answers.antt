use mathlib.Core.Path.{refl}
use native.Mathlib.Omega.{arith}
use Rattle.list_form.specs.FormSteps.{shifted}
use Rattle.list_form.proofs.tree_start.Goals as goal

pub overflow_sub-result : goal.overflow_sub-result
overflow_sub-result c = let s = shifted c.args.k (omega arith) in rw s.0 s.1

pub overflow_add-result-2 : goal.overflow_add-result-2
overflow_add-result-2 c = let s = shifted c.args.k (omega arith) in rw s.0 (omega arith)

pub returns : goal.returns
returns c = rw (shifted c.args.k (omega arith)).0 refl
