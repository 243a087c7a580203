use Rattle.std.proofs.Common.{◌∙◌, ap, arith}
use Rattle.roles.specs.Ancestors.{passed, pass_on}
use Rattle.roles.proofs.ancestors.Goals as goal

pub loop-k-preserved : goal.loop-k-preserved
loop-k-preserved c = let v = c.loop-k.invariant in
    λ m h. c.pass-next.ensures m h ∙ pass_on c.args.rs.now c.loop-k.k m _ _ (omega arith) (v m h) (v c.loop-k.k (omega arith))

pub returns : goal.returns
returns c = λ i h. c.loop-k.invariant i h ∙ ap (λ k. passed c.args.rs.now k i) (omega (arith, c.role_count-n.ensures.0))
