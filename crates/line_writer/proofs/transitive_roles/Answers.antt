use native.Mathlib.Omega.{arith}
use Rattle.words.specs.Words.{set_none, set_more, in_word_lem}
use Rattle.line_writer.specs.WriteSteps.{transitives_done}
use Rattle.line_writer.proofs.transitive_roles.Goals as goal

pub loop-r-init : goal.loop-r-init
loop-r-init c = set_none _

pub loop-r-preserved : goal.loop-r-preserved
loop-r-preserved c = let few = c.up_to-r-end.ensures.1 in
    set_more _ c.loop-r.r _ _ _ c.loop-r.invariant (in_word_lem 16 c.loop-r.r _ _ (omega arith) c.has.ensures) c.put-out.ensures

pub returns : goal.returns
returns c = transitives_done c.args.a.now c.args.roles c.loop-r.r _ _ c.up_to-r-end.ensures.0 (omega arith) (omega arith) c.loop-r.invariant
