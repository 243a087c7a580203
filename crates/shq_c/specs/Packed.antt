-- An answer as one number for C: word · 65536 + number · 256 + record (include/shq.h).
use Rattle.std.specs.Prelude.{ℕ, ◌+◌, ◌*◌, ◌≡◌}
use Rattle.std.proofs.Common.{arith}
use Rattle.answers.specs.Answers.{Word, REFUSED, INHABITED, EMPTY, WRITTEN, HOLDS, FAILS, HOLDS_OF_NOTHING, DONE, Answer}

abbrev pub word_no : Word → ℕ
word_no REFUSED = 0
word_no INHABITED = 1
word_no EMPTY = 2
word_no WRITTEN = 3
word_no HOLDS = 4
word_no FAILS = 5
word_no HOLDS_OF_NOTHING = 6
word_no DONE = 7

abbrev pub packed : Answer → ℕ
packed a = word_no a.word * 65536 + (a.number * 256 + a.place)

pub refused_packed : (number place : ℕ) → number * 256 + place ≡ packed (record { word = REFUSED; number = number; place = place })
refused_packed number place = omega arith
