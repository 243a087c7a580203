-- What is done is not refused.
use Rattle.std.specs.Prelude.{ℕ, ◌≡◌, Result, Ok, Err}
use Rattle.std.proofs.Common.{ap, arith}
use Rattle.answers.specs.declared.Refusal.{Refusal}
use Rattle.answers.specs.Answers.{of_change}

pub not_refused : (r : Refusal) → ◌≡◌ {A = Result (Unit {0}) Refusal} (Ok tt) (Err r) → ⊥
not_refused r e = let y = ap (λ c. (of_change c).word) e in let x : ◌≡◌ {A = ℕ} 0 1 = cc in omega arith
