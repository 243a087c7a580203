use mathlib.Core.Path.{refl, ap}
use native.Mathlib.Omega.{arith}
use Rattle.rows.specs.HeldRows.{side_of}
use Rattle.list_leaf.specs.Totals.{price_most, priced_lower, priced_upper}
use Rattle.list_leaf.proofs.price_of.Goals as goal

pub overflow_mul-result : goal.overflow_mul-result
overflow_mul-result c = let a = c.args in let w = price_most a.x a.m (omega arith) (omega arith) in omega arith

pub overflow_mul-result-in-Lower : goal.overflow_mul-result-in-Lower
overflow_mul-result-in-Lower c = let a = c.args in let w = price_most a.x a.m (omega arith) (omega arith) in omega arith

pub overflow_mul-result-in-Upper : goal.overflow_mul-result-in-Upper
overflow_mul-result-in-Upper c = let a = c.args in let w = price_most a.x a.m (omega arith) (omega arith) in omega arith

pub returns-in-Lower : goal.returns-in-Lower
returns-in-Lower c = let a = c.args in (priced_lower a.x a.m (omega arith) (omega arith) _ (ap side_of c.in-Lower.is) refl, omega arith)

pub returns-in-Upper : goal.returns-in-Upper
returns-in-Upper c = let a = c.args in (priced_upper a.x a.m (omega arith) (omega arith) _ (ap side_of c.in-Upper.is) refl, omega arith)
