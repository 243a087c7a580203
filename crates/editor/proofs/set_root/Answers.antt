use Rattle.editor.proofs.StateLaws.{edits_state}
use Rattle.editor.proofs.set_root.Goals as goal

pub returns : goal.returns
returns c = edits_state c.args.s _ c.put_root-answer.result _ _ c.put_root-answer.ensures c.after.ensures
