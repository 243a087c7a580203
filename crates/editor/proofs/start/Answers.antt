use Rattle.editor.proofs.StateLaws.{starts}
use Rattle.editor.proofs.start.Goals as goal

pub returns : goal.returns
returns c = starts _ c.holding.ensures
