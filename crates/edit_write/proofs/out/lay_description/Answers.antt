use Rattle.edit_lay.specs.LayLaws.{description_laid}
use native.Mathlib.Omega.{arith}
use Rattle.edit_write.proofs.out.lay_description.Goals as goal

pub returns : goal.returns
returns c = rw (c.lay_parts.ensures, c.lay_pairs.ensures)
    (description_laid _ _ _ _ (omega arith))
