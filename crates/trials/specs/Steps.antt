-- Steps 1, 3, 4 and 5 (01, "Evidence", Closing list) byte by byte; 3 to 5 on both sides.
use Rattle.std.specs.Prelude.{ℕ, ◌≡◌, refl, List, [], ◌∷◌, map}
use Rattle.answers.specs.Answers.{REFUSED, EMPTY}
use Rattle.trials.specs.Trials.{Trial, checks, Outcome, tells, outcome, told}

-- names A 2 and B 4; 6 A and B; the root 7, not both; rules 0 and 1, A and B
named : List ℕ
named =
    0 ∷ 12 ∷ 0 ∷ 3 ∷ 0 ∷ 15 ∷ 0 ∷ 24 ∷ 0 ∷ 39 ∷ 0 ∷ 3
    ∷ 0 ∷ 0 ∷ 0
    ∷ 0 ∷ 0 ∷ 0 ∷ 0 ∷ 0 ∷ 0
    ∷ 1 ∷ 0 ∷ 0 ∷ 0 ∷ 0 ∷ 0
    ∷ 1 ∷ 0 ∷ 0 ∷ 0 ∷ 0 ∷ 0
    ∷ 2 ∷ 0 ∷ 2 ∷ 4 ∷ 0 ∷ 0
    ∷ 7 ∷ 2 ∷ 4 ∷ []

-- with the second cite of step 3, the rule of the first step 4, and the second cite of step 5
refuting : ℕ → ℕ → ℕ → List ℕ
refuting second rule other =
    -- six records at 26, 36, 46, 58, 69 and 80
    2 ∷ 6 ∷ 0 ∷ 26 ∷ 0 ∷ 10 ∷ 0 ∷ 36 ∷ 0 ∷ 10 ∷ 0 ∷ 46 ∷ 0 ∷ 12 ∷ 0 ∷ 58 ∷ 0 ∷ 11 ∷ 0 ∷ 69 ∷ 0 ∷ 11 ∷ 0 ∷ 80 ∷ 0 ∷ 12
    -- {2, 3} and {4, 5} by step 1
    ∷ 0 ∷ 0 ∷ 0 ∷ 0 ∷ 0 ∷ 0 ∷ 0 ∷ 12 ∷ 1 ∷ 2
    ∷ 0 ∷ 0 ∷ 0 ∷ 0 ∷ 0 ∷ 0 ∷ 0 ∷ 48 ∷ 1 ∷ 4
    -- {2, 4, 7} by step 3: not A, or not B
    ∷ 0 ∷ 0 ∷ 0 ∷ 0 ∷ 0 ∷ 0 ∷ 0 ∷ 148 ∷ 3 ∷ 3 ∷ 0 ∷ second
    -- {4, 7} by step 4: A; {5} by step 4: B
    ∷ 0 ∷ 0 ∷ 0 ∷ 0 ∷ 0 ∷ 0 ∷ 0 ∷ 144 ∷ 4 ∷ rule ∷ 2
    ∷ 0 ∷ 0 ∷ 0 ∷ 0 ∷ 0 ∷ 0 ∷ 0 ∷ 32 ∷ 4 ∷ 1 ∷ 1
    -- {7} by step 5: B, or not B
    ∷ 0 ∷ 0 ∷ 0 ∷ 0 ∷ 0 ∷ 0 ∷ 0 ∷ 128 ∷ 5 ∷ 2 ∷ 3 ∷ other ∷ []

pub steps : List (Trial × Outcome)
unfolding named refuting
steps =
    (checks named (refuting 1 0 4), tells (told EMPTY 0 0))
    -- {2, 3} is within {2, 4, 7} and 3, but not within {2, 4, 7} and 5
    ∷ (checks named (refuting 0 0 4), tells (told REFUSED 17 2))
    -- {2, 4, 7} is within {4, 7} and rule 0, but not within {4, 7} and rule 1
    ∷ (checks named (refuting 1 1 4), tells (told REFUSED 17 3))
    -- {4, 7} is within {7} and 4, but not within {7} and 5
    ∷ (checks named (refuting 1 0 3), tells (told REFUSED 17 5))
    ∷ []

pub steps_hold : map (λ t. outcome t.0) steps ≡ map (λ t. t.1) steps
unfolding steps outcome
steps_hold = refl
