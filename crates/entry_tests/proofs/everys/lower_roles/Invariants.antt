use Rattle.std.proofs.Common.{ℕ, ◌≡◌, ◌<◌, get_or}
use Rattle.entry_tests.specs.Everys.{below_in}
use Rattle.entry_tests.proofs.everys.lower_roles.Given as goal

abbrev pub invariant-loop-i : goal.invariant-loop-i
invariant-loop-i l = (r : ℕ) → r < 16 → get_or l.out r 0 ≡ below_in l.t l.i r
