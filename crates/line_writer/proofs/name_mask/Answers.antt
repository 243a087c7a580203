use native.Mathlib.Omega.{arith}
use Rattle.words.specs.Words.{set_none, set_more, in_word_lem}
use Rattle.line_writer.specs.WriteSteps.{names_done}
use Rattle.line_writer.proofs.name_mask.Goals as goal

pub loop-e-init : goal.loop-e-init
loop-e-init c = set_none _

pub loop-e-preserved : goal.loop-e-preserved
loop-e-preserved c = let few = c.entry_count-e-end.ensures.1 in
    set_more _ c.loop-e.e _ _ _ c.loop-e.invariant (in_word_lem 64 c.loop-e.e _ _ (omega arith) c.name_in.ensures) c.put-out.ensures

pub returns : goal.returns
returns c = names_done _ _ c.loop-e.e _ _ c.entry_count-e-end.ensures.0 (omega arith) (omega arith) c.loop-e.invariant
