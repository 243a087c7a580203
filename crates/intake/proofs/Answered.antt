-- A refusal that the code makes has the number and record of the one that is meant.
use Rattle.std.specs.Prelude.{◌≡◌}
use Rattle.std.proofs.Common.{ap}
use Rattle.std.proofs.Math.Option.{Option, some}
use Rattle.logic.specs.Refusals as Theory
use Rattle.answers.specs.declared.Refusal.{Refusal}
use Rattle.answers.specs.Answers.{numbered}

pub answered : {r s : Refusal} → r ≡ s → ◌≡◌ {A = Option Theory.Refusal} (some (numbered r)) (some (numbered s))
answered e = ap (λ r. some (numbered r)) e
