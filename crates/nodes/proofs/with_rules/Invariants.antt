use Prim.Native.Nat.{◌-◌, ◌≤◌}
use mathlib.Core.Path.{◌≡◌}
use lib.ListN.{length}
use Rattle.labels.specs.Labels.{value_of}
use Rattle.nodes.specs.NodeSteps.{with_rules}
use Rattle.nodes.proofs.with_rules.Given as goal

abbrev pub invariant-loop-i : goal.invariant-loop-i
invariant-loop-i l = (l.i - 1 ≤ length l.qs - 1) × (value_of l.y ≡ with_rules l.qs (l.i - 1) (value_of l.initial.y))
