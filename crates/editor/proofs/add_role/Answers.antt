use Rattle.editor.proofs.StateLaws.{edits_state}
use Rattle.editor.proofs.add_role.Goals as goal

pub returns : goal.returns
returns c = edits_state c.args.s _ c.put_role-answer.result _ _ c.put_role-answer.ensures c.after.ensures
