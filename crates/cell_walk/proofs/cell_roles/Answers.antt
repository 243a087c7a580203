use Rattle.std.proofs.Common.{◌∙◌, arith}
use Rattle.cell_walk.proofs.WalkLaws.{from_all}
use Rattle.cell_walk.proofs.cell_roles.Goals as goal

pub returns-clause-roles : goal.returns-clause-roles
returns-clause-roles c = λ above d W t. W.roles 0 (omega arith) t ∙ from_all above t d
