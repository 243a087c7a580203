use Rattle.std.proofs.Common.{◌∙◌, ap, rules}
use Rattle.answers.specs.Answers.{of_verdict}
use Rattle.verdict.specs.VerdictSteps.{verdict_same}
use Rattle.verdict.proofs.check_evidence.Goals as goal

pub returns : goal.returns
returns c = ap of_verdict (verdict_same c.judge.result _ (search rules)) ∙ c.judge.ensures
