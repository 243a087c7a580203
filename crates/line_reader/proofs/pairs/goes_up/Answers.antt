use mathlib.Core.Path.{refl, sym, ◌∙◌}
use Rattle.line_reader.proofs.pairs.goes_up.Goals as goal

pub returns-then-has : goal.returns-then-has
returns-then-has c = c.is_within.ensures ∙ rw (sym c.has.ensures ∙ c.if-has.true) refl

pub returns-else-has : goal.returns-else-has
returns-else-has c = rw (sym c.has.ensures ∙ c.if-has.false) refl
