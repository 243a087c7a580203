-- Trials at 32, 33, 64 and 65 entries (02, job 2): both widths of labels and name masks, with evidence of the table's width and of the other.
use Rattle.std.specs.Prelude.{ℕ, zero, suc, ◌+◌, ◌*◌, ◌/◌, ◌%◌, ◌≡◌, refl, List, [], ◌∷◌, ◌++◌, map, length, replicate}
use Rattle.answers.specs.Answers.{REFUSED, INHABITED, EMPTY, WRITTEN, HOLDS_OF_NOTHING, FAILS}
use Rattle.trials.specs.Trials.{Trial, checks, writes, judges, Outcome, tells, leaves, outcome, told}

abbrev number : ℕ → List ℕ
number n = n / 256 ∷ n % 256 ∷ []

-- n names, by number
abbrev names : ℕ → List ℕ
names zero = []
names (suc n) = 1 ∷ 0 ∷ 0 ∷ 0 ∷ 0 ∷ 0 ∷ names n

-- one role; top and n names; a root
abbrev table : ℕ → ℕ → List ℕ
table n root = number 12 ++ number 3 ++ number 15 ++ number (6 + 6 * n) ++ number (21 + 6 * n) ++ number 1
    ++ 0 ∷ 0 ∷ 0 ∷ 0 ∷ 0 ∷ 0 ∷ 0 ∷ 0 ∷ 0 ∷ names n ++ root ∷ []

-- evidence of one record
abbrev alone : ℕ → List ℕ → List ℕ
alone kind r = kind ∷ 1 ∷ number 6 ++ number (length r) ++ r

-- n bytes 0
abbrev zeros : ℕ → List ℕ
zeros n = replicate n 0

abbrev trials : List (Trial × Outcome)
trials =
    -- 32 entries are narrow, 33 are wide; a graph of the other width is 10
    (checks (table 31 0) (alone 1 (zeros 7 ++ 1 ∷ [])), tells (told INHABITED 0 0))
    ∷ (checks (table 31 0) (alone 1 (zeros 15 ++ 1 ∷ [])), tells (told REFUSED 10 0))
    ∷ (checks (table 32 0) (alone 1 (zeros 15 ++ 1 ∷ [])), tells (told INHABITED 0 0))
    ∷ (checks (table 32 0) (alone 1 (zeros 7 ++ 1 ∷ [])), tells (told REFUSED 10 0))
    -- 64 entries, with the last literal of the table; 65 are 2
    ∷ (checks (table 63 127) (alone 1 (128 ∷ zeros 14 ++ 1 ∷ [])), tells (told INHABITED 0 0))
    ∷ (checks (table 63 127) (alone 1 (64 ∷ zeros 14 ++ 1 ∷ [])), tells (told REFUSED 11 0))
    ∷ (checks (table 63 128) (alone 1 (128 ∷ zeros 14 ++ 1 ∷ [])), tells (told REFUSED 8 0))
    ∷ (checks (table 64 0) (alone 1 (zeros 15 ++ 1 ∷ [])), tells (told REFUSED 2 0))
    -- 11: literals 64 and 65 are opposite; literal 66 is not in a table of 33 entries
    ∷ (checks (table 32 0) (alone 1 (zeros 7 ++ 1 ∷ zeros 7 ++ 1 ∷ [])), tells (told INHABITED 0 0))
    ∷ (checks (table 32 0) (alone 1 (zeros 7 ++ 3 ∷ zeros 7 ++ 1 ∷ [])), tells (told REFUSED 11 0))
    ∷ (checks (table 32 0) (alone 1 (zeros 7 ++ 4 ∷ zeros 7 ++ 1 ∷ [])), tells (told REFUSED 11 0))
    -- a list of one record: {1} by step 1 of literal 1
    ∷ (checks (table 32 1) (alone 2 (zeros 15 ++ 2 ∷ 1 ∷ 1 ∷ [])), tells (told EMPTY 0 0))
    ∷ (checks (table 32 1) (alone 2 (zeros 7 ++ 2 ∷ 1 ∷ 1 ∷ [])), tells (told REFUSED 10 0))
    -- a list of the other width is judged where it has a form: a label of 8 bytes with a counting step of 10 is one of 16 with step 1, of 8
    ∷ (checks (table 31 1) (alone 2 (zeros 8 ++ 6 ∷ 2 ∷ 0 ∷ 2 ∷ 255 ∷ 255 ∷ 255 ∷ 0 ∷ 1 ∷ 8 ∷ [])), tells (told REFUSED 17 0))
    ∷ (checks (table 32 1) (alone 2 (zeros 8 ++ 6 ∷ 2 ∷ 0 ∷ 2 ∷ 255 ∷ 255 ∷ 255 ∷ 0 ∷ 1 ∷ 8 ∷ [])), tells (told REFUSED 20 0))
    -- 17: literal 64 is not in the label {1}
    ∷ (checks (table 32 1) (alone 2 (zeros 15 ++ 2 ∷ 1 ∷ 64 ∷ [])), tells (told REFUSED 17 0))
    -- claims on literals past 63: every 64 is 66 fails of one that has 64 and not 66; nothing has 1, whatever 64 is
    ∷ (judges (table 33 0) 64 66 (alone 1 (zeros 7 ++ 9 ∷ zeros 7 ++ 1 ∷ [])) [], tells (told FAILS 0 0))
    ∷ (judges (table 33 0) 1 64 (alone 2 (zeros 15 ++ 2 ∷ 1 ∷ 1 ∷ [])) [], tells (told HOLDS_OF_NOTHING 0 0))
    -- every 1 is 64 holds: nothing is 1; but the second piece is to show one, and here its labels have the other width; 127 is in the table, 128 not
    ∷ (judges (table 33 0) 1 64 (alone 2 (zeros 15 ++ 2 ∷ 1 ∷ 1 ∷ [])) (alone 1 (zeros 7 ++ 1 ∷ [])), tells (told REFUSED 10 0))
    ∷ (judges (table 63 0) 127 0 (alone 1 (128 ∷ zeros 14 ++ 1 ∷ [])) [], tells (told REFUSED 11 0))
    ∷ (judges (table 63 0) 128 0 (alone 1 (128 ∷ zeros 14 ++ 1 ∷ [])) [], tells (told REFUSED 24 0))
    -- written: a graph of the other width; the name entry 31 in a mask of 4 bytes, entry 32 in one of 8; a buffer one byte short
    ∷ (writes (table 32 64) (alone 1 (zeros 7 ++ 1 ∷ [])) (replicate 12 9), leaves (told REFUSED 10 0) 0 (replicate 12 9))
    ∷ (writes (table 31 62) (alone 1 (64 ∷ zeros 6 ++ 1 ∷ [])) (replicate 8 9), leaves (told WRITTEN 0 0) 7 (1 ∷ 128 ∷ zeros 5 ++ 9 ∷ []))
    ∷ (writes (table 32 64) (alone 1 (zeros 7 ++ 1 ∷ zeros 7 ++ 1 ∷ [])) (replicate 12 9), leaves (told WRITTEN 0 0) 11 (1 ∷ zeros 3 ++ 1 ∷ zeros 6 ++ 9 ∷ []))
    ∷ (writes (table 32 64) (alone 1 (zeros 7 ++ 1 ∷ zeros 7 ++ 1 ∷ [])) (replicate 10 9), leaves (told REFUSED 22 0) 0 (replicate 10 9))
    ∷ []

pub wide_trials : map (λ t. outcome t.0) trials ≡ map (λ t. t.1) trials
unfolding outcome
wide_trials = refl
