use Rattle.shq_c.specs.EditLaws.{edits_packed}
use Rattle.shq_c.proofs.edit.shq_edit_concept.Goals as goal

pub returns : goal.returns
returns c = rw (← c.from.ensures) (edits_packed _ _ _ _ _ c.packed.ensures c.put_concept.ensures)
