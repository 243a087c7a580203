-- The answer that the code promises is fine for accepted bytes alone.
use Rattle.std.specs.Prelude.{ℕ, ◌≡◌, ◌↔◌, List, Result, Ok}
use Rattle.answers.specs.Answers.{refusal_of, wholly, fine↔}
use Rattle.answers.specs.declared.Refusal.{Refusal}
use Rattle.intake.specs.Intake.{bytes_test, AcceptedBytes, accepted_bytes↔}

-- the answer that the code promises is fine exactly then
pub fine_when : (d : List ℕ) (t : Result (Unit {0}) Refusal) → refusal_of t ≡ wholly (bytes_test d) → (t ≡ Ok tt) ↔ AcceptedBytes d
fine_when d t e = let f = fine↔ t (bytes_test d) e in let a = accepted_bytes↔ d in (λ h. a.0 (f.0 h), λ h. f.1 (a.1 h))
