use Rattle.labels.specs.Words.{word_apart}
use Rattle.labels.proofs.word_apart.Goals as goal

pub returns : goal.returns
returns c = word_apart c.args.x
