use Rattle.shq_c.specs.EditLaws.{starts_packed}
use Rattle.shq_c.proofs.edit.shq_edit_start.Goals as goal

pub returns : goal.returns
returns c = starts_packed _ _ _ _ c.packed.ensures c.clear.ensures
