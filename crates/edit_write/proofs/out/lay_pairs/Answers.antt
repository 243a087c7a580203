use Rattle.edit_lay.specs.LayLaws.{pairs_laid}
use native.Mathlib.Omega.{arith}
use Rattle.edit_write.proofs.out.lay_pairs.Goals as goal

pub returns : goal.returns
returns c = rw (c.put2-6.ensures, c.put2-5.ensures, c.put2-4.ensures, c.put2-3.ensures, c.put2-2.ensures, c.put2.ensures)
    (pairs_laid _ _ _ _ (omega arith))
