use Rattle.std.proofs.Common.{refl, ◌∙◌, ap, arith}
use Rattle.roles.specs.Ancestors.{above_transitive, above_none, above_next}
use Rattle.roles.proofs.complex_roles.Goals as goal

pub loop-t-init : goal.loop-t-init
loop-t-init c = above_none c.args.rs.now c.args.a

pub loop-t-preserved : goal.loop-t-preserved
loop-t-preserved c = above_next c.args.rs.now c.args.a _ _ _ _ _ c.loop-t.invariant refl
    c.with_ancestors-out.ensures.1 c.byte.ensures c.with_ancestors-out.ensures.0

pub returns : goal.returns
returns c = c.loop-t.invariant ∙ ap (above_transitive c.args.rs.now c.args.a) (omega (arith, c.role_count-n.ensures.0))
