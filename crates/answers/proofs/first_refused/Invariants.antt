use Rattle.std.specs.Prelude.{◌≡◌, ◌-◌, ℕ, Result}
use Rattle.std.proofs.Math.Option.{Option, none}
use Rattle.logic.specs.Refusals.{refuse, refuse_from}
use Rattle.answers.specs.declared.Refusal.{Refusal}
use Rattle.answers.specs.Answers.{refusal_of}
use Rattle.answers.proofs.first_refused.Given as goal

abbrev pub invariant-loop-i : goal.invariant-loop-i
invariant-loop-i g l = (p : ℕ → Option ℕ) → ((i : ℕ) (r : Result (Unit {0}) Refusal) → goal.F-post g l.test i r → refusal_of r ≡ refuse i (p i) none)
    → refuse_from p (l.n - l.i) l.i none ≡ refuse_from p l.n 0 none
