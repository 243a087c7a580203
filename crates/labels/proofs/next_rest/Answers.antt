use mathlib.Core.Path.{◌∙◌}
use Rattle.labels.specs.Labels.{value_of}
use Rattle.labels.specs.Words.{rest_first, rest_next}
use Rattle.labels.proofs.next_rest.Goals as goal

pub returns-then-e-eq0 : goal.returns-then-e-eq0
returns-then-e-eq0 c = λ _. let a = c.args in c.word_of.ensures ∙ rest_first (value_of a.x) a.e c.if-e-eq0.true

pub returns-else-e-eq0 : goal.returns-else-e-eq0
returns-else-e-eq0 c = λ f. let a = c.args in rest_next (value_of a.x) a.e a.rest c.if-e-eq0.false f
