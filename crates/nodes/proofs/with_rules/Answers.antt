use Prim.Native.Nat.{◌+◌, ◌-◌}
use mathlib.Core.Path.{◌≡◌, ◌∙◌, ap, ap₂}
use native.Mathlib.Omega.{arith}
use Rattle.parts.specs.Numbers.{byte_at}
use Rattle.labels.specs.Labels.{label_with, value_of}
use Rattle.nodes.specs.NodeSteps.{with_rules, rules_none, rules_more}
use Rattle.nodes.proofs.with_rules.Goals as goal

pub loop-i-init : goal.loop-i-init
loop-i-init c = (omega arith, rules_none _ _)

pub loop-i-preserved : goal.loop-i-preserved
loop-i-preserved c = let qs = c.args.qs.now in let i = c.loop-i.i in let back : i ≡ i - 1 + 1 = omega arith in let on : i - 1 + 1 ≡ i + 1 - 1 = omega arith in (
  omega arith,
  c.put-y.ensures ∙ ap₂ label_with c.loop-i.invariant.1 (ap (byte_at qs) back) ∙ rules_more qs (i - 1) _ ∙ ap (λ k. with_rules qs k (value_of c.args.x)) on,
)
