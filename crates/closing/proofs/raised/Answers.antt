use mathlib.Core.Path.{◌∙◌, ap, refl}
use native.Mathlib.Omega.{arith}
use Rattle.closing.specs.Steps.{raised_to, raised_same, raised_none, raised_more}
use Rattle.closing.proofs.raised.Goals as goal

pub returns-then-closed-eq0 : goal.returns-then-closed-eq0
returns-then-closed-eq0 c = raised_same c.args.m c.args.t _ (omega arith) c.if-closed-eq0.true

pub loop-u-init : goal.loop-u-init
loop-u-init c = raised_none _ _ _ (omega arith)

pub loop-u-preserved : goal.loop-u-preserved
loop-u-preserved c = raised_more c.args.m c.args.t c.loop-u.u _ _ _
    c.args.a.now c.loop-u.invariant refl c.with_above-out.ensures.1 c.with_above-out.ensures.0

pub returns : goal.returns
returns c = c.loop-u.invariant ∙ ap (raised_to c.args.m c.args.t c.args.a.now) (omega arith)
