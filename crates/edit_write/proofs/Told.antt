-- What is refused is not written.
use Rattle.std.specs.Prelude.{ℕ, ◌≡◌, Result, Ok, Err}
use Rattle.std.proofs.Common.{ap, arith}
use Rattle.answers.specs.declared.Refusal.{Refusal}
use Rattle.answers.specs.Answers.{of_written}

pub not_written : (r : Refusal) (n : ℕ) → ◌≡◌ {A = Result ℕ Refusal} (Err r) (Ok n) → ⊥
not_written r n e = let y = ap (λ o. (of_written o).word) e in let x : ◌≡◌ {A = ℕ} 0 1 = cc in omega arith
