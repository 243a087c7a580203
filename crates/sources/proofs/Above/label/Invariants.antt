use Rattle.sources.specs.Sources.{every_above, marked}
use Rattle.labels.specs.Labels.{value_of}
use Rattle.tables.specs.Tables.{fields_at}
use mathlib.Core.Path.{◌≡◌}
use Rattle.sources.proofs.Above.label.Given as goal

abbrev pub invariant-loop-f : goal.invariant-loop-f
invariant-loop-f l = value_of l.out ≡ marked (λ f'. every_above l.self.above l.self.l (fields_at l.self.cs.now f')) l.f
