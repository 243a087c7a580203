use Rattle.labels.specs.Blocks.{with_low, with_high}
use Rattle.labels.specs.Labels.{label_with}
use Rattle.logic.specs.SetLaws.{single_word}
use Rattle.logic.specs.Sets.{with}
use borrow.Author.Tests.{lt-ltb, le-ltb}
use Prim.Native.Nat.{◌-◌}
use mathlib.Core.Path.{refl}
use native.Mathlib.Omega.{arith}
use Rattle.labels.proofs.put.Goals as goal

pub returns-then-l-lt64 : goal.returns-then-l-lt64
unfolding label_with with
returns-then-l-lt64 c = let x = c.args.x in let l = c.args.l in
    rw (single_word 64 l c.if-l-lt64.true, lt-ltb l 128 (omega (arith, c.if-l-lt64.true))) (with_low 64 x.high x.low l (omega arith) c.if-l-lt64.true)

pub returns-then-l-lt-MOST_LITERALS : goal.returns-then-l-lt-MOST_LITERALS
unfolding label_with with
returns-then-l-lt-MOST_LITERALS c = let x = c.args.x in let l = c.args.l in
    rw (single_word 64 (l - 64) (omega (arith, c.if-l-lt-MOST_LITERALS.true, c.if-l-lt64.false)), lt-ltb l 128 c.if-l-lt-MOST_LITERALS.true)
    (with_high 64 x.high x.low l (omega arith) c.if-l-lt64.false)

pub returns : goal.returns
unfolding label_with
returns c = rw (le-ltb c.args.l 128 c.if-l-lt-MOST_LITERALS.false) refl
