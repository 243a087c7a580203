use Rattle.shq_c.specs.EditLaws.{edits_packed}
use Rattle.shq_c.proofs.edit.shq_edit_inclusion.Goals as goal

pub returns : goal.returns
returns c = edits_packed _ _ _ _ _ c.packed.ensures c.put_inclusion.ensures
