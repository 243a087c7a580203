use borrow.Author.Rules.{rules}
use Prim.Native.Nat.{◌≤◌}
use mathlib.Core.Path.{refl}
use native.Mathlib.Omega.{arith}
use lib.Bits.{bit_and}
use lib.Count.{ones}
use Rattle.logic.specs.Sets.{has}
use Rattle.logic.specs.Sums.{count_bound}
use Rattle.words.specs.Words.{size_word}
use Rattle.line_reader.proofs.sets.set_size.Goals as goal

pub overflow_cast-result : goal.overflow_cast-result
overflow_cast-result c = let a = c.args in
    let h : ones (bit_and c.full_set.result a.x) ≤ 64 =
    rw (size_word a.d a.x _ _ c.full_set.ensures refl) (omega (arith, count_bound a.d (has a.x))) in
    search rules

pub returns : goal.returns
returns c = size_word c.args.d c.args.x _ _ c.full_set.ensures refl
