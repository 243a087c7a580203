use Rattle.std.specs.Prelude.{◌≡◌, true, ℕ, Bool, ◌≤◌}
use Rattle.logic.specs.Sets.{has, set_of}
use Rattle.words.proofs.set_where.Given as goal

abbrev pub invariant-loop-i : goal.invariant-loop-i
invariant-loop-i g l = (p : ℕ → Bool) → ((i : ℕ) (b : Bool) → goal.F-post g l.test i b → b ≡ p i) → l.n ≤ 64 → l.out ≡ set_of l.i p
