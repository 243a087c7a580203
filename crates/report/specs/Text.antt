-- The line that the program prints (01, "Trial descriptions"; FORMAT 10): word, number and record in ASCII, a space between two, a line feed behind.
use Rattle.std.specs.Prelude.{ℕ, ◌+◌, ◌-◌, ◌*◌, ◌/◌, ◌%◌, ◌≤◌, ◌<◌, ◌≡◌, refl, cond, List, [], ◌∷◌, ◌++◌, map, ltb, length}
use Rattle.std.proofs.Common.{arith, lt-ltb, le-ltb}
use Rattle.std.proofs.Math.Decide.{dec_lt}
use Rattle.parts.specs.Numbers.{byte_at}
use Rattle.laying.specs.Laying.{laid}
use Rattle.answers.specs.Answers.{Word, REFUSED, INHABITED, EMPTY, WRITTEN, HOLDS, FAILS, HOLDS_OF_NOTHING, DONE, Answer, over}

-- ---- the text
abbrev pub word_text : Word → List ℕ
word_text REFUSED = 82 ∷ 69 ∷ 70 ∷ 85 ∷ 83 ∷ 69 ∷ 68 ∷ []
word_text INHABITED = 73 ∷ 78 ∷ 72 ∷ 65 ∷ 66 ∷ 73 ∷ 84 ∷ 69 ∷ 68 ∷ []
word_text EMPTY = 69 ∷ 77 ∷ 80 ∷ 84 ∷ 89 ∷ []
word_text WRITTEN = 87 ∷ 82 ∷ 73 ∷ 84 ∷ 84 ∷ 69 ∷ 78 ∷ []
word_text HOLDS = 72 ∷ 79 ∷ 76 ∷ 68 ∷ 83 ∷ []
word_text FAILS = 70 ∷ 65 ∷ 73 ∷ 76 ∷ 83 ∷ []
word_text HOLDS_OF_NOTHING = 72 ∷ 79 ∷ 76 ∷ 68 ∷ 83 ∷ 32 ∷ 79 ∷ 70 ∷ 32 ∷ 78 ∷ 79 ∷ 84 ∷ 72 ∷ 73 ∷ 78 ∷ 71 ∷ []
word_text DONE = 68 ∷ 79 ∷ 78 ∷ 69 ∷ []

-- a digit below 10
abbrev pub digit : ℕ → ℕ
digit d = 48 + d

-- a number below 1,000 in decimal, with no zero before its first digit
unfoldable pub decimal : ℕ → List ℕ
decimal n = cond (ltb n 10) (digit n ∷ []) (cond (ltb n 100) (digit (n / 10) ∷ digit (n % 10) ∷ []) (digit (n / 100) ∷ digit (n / 10 % 10) ∷ digit (n % 10) ∷ []))

-- the number that decimal digits say after n
unfoldable pub number_said : ℕ → List ℕ → ℕ
number_said n [] = n
number_said n (c ∷ cs) = number_said (10 * n + (c - 48)) cs

-- the digits of a number say it, and the first of several is no 0
pub decimal_says : (n : ℕ) → n < 1000 → (number_said 0 (decimal n) ≡ n) × (10 ≤ n → 48 < byte_at (decimal n) 0)
unfolding decimal number_said
decimal_says n h = elim (dec_lt n 10) [
  | yes l ↦ rw (lt-ltb _ _ l) (omega arith, λ g. absurd (omega arith))
  | no l ↦ (let k : 10 ≤ n = omega arith in elim (dec_lt n 100) [
    | yes m ↦ rw (le-ltb _ _ k, lt-ltb _ _ m) (omega arith, λ g. omega arith)
    | no m ↦ (let j : 100 ≤ n = omega arith in rw (le-ltb _ _ k, le-ltb _ _ j) (omega arith, λ g. omega arith))
  ])
]

abbrev space : List ℕ
space = 32 ∷ []

abbrev line_feed : List ℕ
line_feed = 10 ∷ []

unfoldable pub text_of : Answer → List ℕ
text_of a = word_text a.word ++ space ++ decimal a.number ++ space ++ decimal a.place ++ line_feed

-- lines of 01: INHABITED 0 0 of P1, EMPTY 0 0 of P2, REFUSED 15 0 of P5; the longest refusal, REFUSED 255 255; and HOLDS OF NOTHING 0 0, of 02
pub lines : map text_of (
    record { word = INHABITED; number = 0; place = 0 } ∷ record { word = EMPTY; number = 0; place = 0 }
    ∷ record { word = REFUSED; number = 15; place = 0 } ∷ record { word = REFUSED; number = 255; place = 255 }
    ∷ record { word = HOLDS_OF_NOTHING; number = 0; place = 0 } ∷ []
    ) ≡ (
    (73 ∷ 78 ∷ 72 ∷ 65 ∷ 66 ∷ 73 ∷ 84 ∷ 69 ∷ 68 ∷ 32 ∷ 48 ∷ 32 ∷ 48 ∷ 10 ∷ [])
    ∷ (69 ∷ 77 ∷ 80 ∷ 84 ∷ 89 ∷ 32 ∷ 48 ∷ 32 ∷ 48 ∷ 10 ∷ [])
    ∷ (82 ∷ 69 ∷ 70 ∷ 85 ∷ 83 ∷ 69 ∷ 68 ∷ 32 ∷ 49 ∷ 53 ∷ 32 ∷ 48 ∷ 10 ∷ [])
    ∷ (82 ∷ 69 ∷ 70 ∷ 85 ∷ 83 ∷ 69 ∷ 68 ∷ 32 ∷ 50 ∷ 53 ∷ 53 ∷ 32 ∷ 50 ∷ 53 ∷ 53 ∷ 10 ∷ [])
    ∷ (72 ∷ 79 ∷ 76 ∷ 68 ∷ 83 ∷ 32 ∷ 79 ∷ 70 ∷ 32 ∷ 78 ∷ 79 ∷ 84 ∷ 72 ∷ 73 ∷ 78 ∷ 71 ∷ 32 ∷ 48 ∷ 32 ∷ 48 ∷ 10 ∷ [])
    ∷ [])
unfolding text_of decimal
lines = refl

-- ---- a buffer
-- a new buffer is the old one with the text laid over it, which ends there
pub record Over (text old new : List ℕ) (end : ℕ) : Type 0 where
  pub bytes : new ≡ over text old
  pub size : end ≡ length text

-- a new buffer is the old one with a number's digits at a place, which end there
abbrev pub Digits : List ℕ → ℕ → ℕ → List ℕ → ℕ → Type 0
Digits old at n new end = (new ≡ laid old at (decimal n)) × (end ≡ at + length (decimal n)) × (end ≤ at + 3)
