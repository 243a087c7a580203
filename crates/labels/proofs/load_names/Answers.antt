use Rattle.labels.specs.Labels.{names_wide, names_narrow}
use Rattle.labels.proofs.load_names.Goals as goal

pub returns-then-broad : goal.returns-then-broad
returns-then-broad c = let g = c.args in names_wide g.s.now g.at g.broad _ c.if-broad.true c.octet.ensures

pub returns-else-broad : goal.returns-else-broad
returns-else-broad c = let g = c.args in names_narrow g.s.now g.at g.broad _ c.if-broad.false c.word.ensures
