use mathlib.Core.Path.{◌≡◌, refl}
use native.Mathlib.Omega.{arith}
use Rattle.words.specs.Words.{all_word, word_some}
use Rattle.line_reader.proofs.sets.full_set.Goals as goal

pub overflow_sub-result : goal.overflow_sub-result
overflow_sub-result c = word_some c.args.d c.if-d-lt-MOST_ELEMENTS.true

pub returns-then-d-lt-MOST_ELEMENTS : goal.returns-then-d-lt-MOST_ELEMENTS
returns-then-d-lt-MOST_ELEMENTS c = all_word c.args.d c.if-d-lt-MOST_ELEMENTS.true

pub returns-else-d-lt-MOST_ELEMENTS : goal.returns-else-d-lt-MOST_ELEMENTS
returns-else-d-lt-MOST_ELEMENTS c = let z : c.args.d ≡ 64 = omega arith in rw z refl
