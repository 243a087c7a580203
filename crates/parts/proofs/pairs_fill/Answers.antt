use Prim.Native.Nat.{◌-◌}
use mathlib.Core.Path.{◌∙◌, sym}
use native.Mathlib.Omega.{arith}
use Rattle.parts.specs.Pairs.{fills_short, fills_start, fills_on, fills_stop, fills_end}
use Rattle.parts.proofs.pairs_fill.Goals as goal

pub returns-then-s-start : goal.returns-then-s-start
returns-then-s-start c = sym (fills_short _ _ _ _ c.if-s-start.true)

pub loop-i-init : goal.loop-i-init
loop-i-init c = (omega arith, omega arith, fills_start _ _ _ _ (omega arith))

pub returns-then-read2-next : goal.returns-then-read2-next
returns-then-read2-next c = sym (fills_stop _ _ _ _ _ (omega arith) (λ e. omega arith)) ∙ c.loop-i.invariant.2

pub loop-i-preserved : goal.loop-i-preserved
loop-i-preserved c = (
  omega arith,
  omega arith,
  sym (fills_on _ _ _ _ _ _ (omega arith) (omega arith) c.read2-next.ensures.0) ∙ c.loop-i.invariant.2,
)

pub returns : goal.returns
returns c = sym (fills_end _ _ _ _ _ (omega arith)) ∙ c.loop-i.invariant.2
