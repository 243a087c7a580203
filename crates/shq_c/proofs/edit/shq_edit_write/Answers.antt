use Rattle.shq_c.specs.EditLaws.{writes_packed}
use Rattle.shq_c.proofs.edit.shq_edit_write.Goals as goal

pub returns : goal.returns
returns c = writes_packed _ _ _ _ _ c.packed.ensures c.write_state.ensures
