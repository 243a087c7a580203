use mathlib.Core.Path.{refl}
use Rattle.line_reader.proofs.truth.rule_ok.Goals as goal

pub returns : goal.returns
returns c = rw (c.literal_set.ensures, c.full_set.ensures) refl
