use mathlib.Core.Path.{◌≡◌}
use Rattle.logic.specs.Sets.{set_of}
use Rattle.labels.specs.Labels.{value_of}
use Rattle.line_writer.specs.WriteSteps.{name_in}
use Rattle.line_writer.proofs.name_mask.Given as goal

abbrev pub invariant-loop-e : goal.invariant-loop-e
invariant-loop-e l = l.out ≡ set_of l.e (name_in l.cs (value_of l.x))
