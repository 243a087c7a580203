use mathlib.Core.Path.{refl}
use Rattle.report.proofs.input_space.Goals as goal

pub returns : goal.returns
returns c = record { zeros = refl; size = refl }
