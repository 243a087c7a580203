use Rattle.edit_lay.specs.LayLaws.{parts_laid}
use Rattle.edit_write.proofs.out.lay_parts.Goals as goal

pub returns : goal.returns
returns c = rw (c.copy_bytes-3.ensures, c.copy_bytes-2.ensures, c.copy_bytes.ensures) (parts_laid _ _ _ _)
