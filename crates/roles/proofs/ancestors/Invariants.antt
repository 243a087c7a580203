use Rattle.std.proofs.Common.{ℕ, ◌≡◌, ◌<◌, get_or}
use Rattle.roles.specs.Ancestors.{passed}
use Rattle.roles.proofs.ancestors.Given as goal

abbrev pub invariant-loop-k : goal.invariant-loop-k
invariant-loop-k l = (m : ℕ) → m < 16 → get_or l.a m 0 ≡ passed l.rs l.k m
