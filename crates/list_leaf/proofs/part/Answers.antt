use mathlib.Core.Path.{refl}
use native.Mathlib.Omega.{arith}
use Rattle.list_leaf.proofs.part.Goals as goal

pub returns-in-Lower : goal.returns-in-Lower
returns-in-Lower c = (rw c.in-Lower.is refl, omega arith)
