-- Claims byte by byte, on both sides of each clause (02, job 1).
use Rattle.std.specs.Prelude.{ℕ, ◌≡◌, refl, List, [], ◌∷◌, map}
use Rattle.answers.specs.Answers.{REFUSED, HOLDS, FAILS, HOLDS_OF_NOTHING}
use Rattle.trials.specs.Trials.{Trial, judges, Outcome, tells, outcome, told}

-- one role, the entry top, and a root; the same with a name, which is literal 2
abbrev top : ℕ → List ℕ
top root = 0 ∷ 12 ∷ 0 ∷ 3 ∷ 0 ∷ 15 ∷ 0 ∷ 6 ∷ 0 ∷ 21 ∷ 0 ∷ 1 ∷ 0 ∷ 0 ∷ 0 ∷ 0 ∷ 0 ∷ 0 ∷ 0 ∷ 0 ∷ 0 ∷ root ∷ []

abbrev named : List ℕ
named =
    0 ∷ 12 ∷ 0 ∷ 3 ∷ 0 ∷ 15 ∷ 0 ∷ 12 ∷ 0 ∷ 27 ∷ 0 ∷ 1
    ∷ 0 ∷ 0 ∷ 0 ∷ 0 ∷ 0 ∷ 0 ∷ 0 ∷ 0 ∷ 0 ∷ 1 ∷ 0 ∷ 0 ∷ 0 ∷ 0 ∷ 0 ∷ 0 ∷ []

-- lists: {1}, {0, 1} and {2, 3}, by step 1
abbrev bottom : List ℕ
bottom = 2 ∷ 1 ∷ 0 ∷ 6 ∷ 0 ∷ 10 ∷ 0 ∷ 0 ∷ 0 ∷ 0 ∷ 0 ∷ 0 ∷ 0 ∷ 2 ∷ 1 ∷ 1 ∷ []

abbrev bottom_top : List ℕ
bottom_top = 2 ∷ 1 ∷ 0 ∷ 6 ∷ 0 ∷ 10 ∷ 0 ∷ 0 ∷ 0 ∷ 0 ∷ 0 ∷ 0 ∷ 0 ∷ 3 ∷ 1 ∷ 1 ∷ []

abbrev clash : List ℕ
clash = 2 ∷ 1 ∷ 0 ∷ 6 ∷ 0 ∷ 10 ∷ 0 ∷ 0 ∷ 0 ∷ 0 ∷ 0 ∷ 0 ∷ 0 ∷ 12 ∷ 1 ∷ 2 ∷ []

-- graphs: a node {0}; a node {0, 2}, alone and before a node {0}; a node of no bytes; the first with its last byte cut off
abbrev graph0 : List ℕ
graph0 = 1 ∷ 1 ∷ 0 ∷ 6 ∷ 0 ∷ 8 ∷ 0 ∷ 0 ∷ 0 ∷ 0 ∷ 0 ∷ 0 ∷ 0 ∷ 1 ∷ []

abbrev graph02 : List ℕ
graph02 = 1 ∷ 1 ∷ 0 ∷ 6 ∷ 0 ∷ 8 ∷ 0 ∷ 0 ∷ 0 ∷ 0 ∷ 0 ∷ 0 ∷ 0 ∷ 5 ∷ []

abbrev graph02then0 : List ℕ
graph02then0 =
    1 ∷ 2 ∷ 0 ∷ 10 ∷ 0 ∷ 8 ∷ 0 ∷ 18 ∷ 0 ∷ 8
    ∷ 0 ∷ 0 ∷ 0 ∷ 0 ∷ 0 ∷ 0 ∷ 0 ∷ 5 ∷ 0 ∷ 0 ∷ 0 ∷ 0 ∷ 0 ∷ 0 ∷ 0 ∷ 1 ∷ []

abbrev formless : List ℕ
formless = 1 ∷ 1 ∷ 0 ∷ 6 ∷ 0 ∷ 0 ∷ []

abbrev cut : List ℕ
cut = 1 ∷ 1 ∷ 0 ∷ 6 ∷ 0 ∷ 8 ∷ 0 ∷ 0 ∷ 0 ∷ 0 ∷ 0 ∷ 0 ∷ 0 ∷ []

-- and one whose record 1 lacks literal 0; a list of {1} and then {2, 3}
abbrev graph02then : List ℕ
graph02then =
    1 ∷ 2 ∷ 0 ∷ 10 ∷ 0 ∷ 8 ∷ 0 ∷ 18 ∷ 0 ∷ 8
    ∷ 0 ∷ 0 ∷ 0 ∷ 0 ∷ 0 ∷ 0 ∷ 0 ∷ 5 ∷ 0 ∷ 0 ∷ 0 ∷ 0 ∷ 0 ∷ 0 ∷ 0 ∷ 0 ∷ []

abbrev bottom_clash : List ℕ
bottom_clash =
    2 ∷ 2 ∷ 0 ∷ 10 ∷ 0 ∷ 10 ∷ 0 ∷ 20 ∷ 0 ∷ 10
    ∷ 0 ∷ 0 ∷ 0 ∷ 0 ∷ 0 ∷ 0 ∷ 0 ∷ 2 ∷ 1 ∷ 1 ∷ 0 ∷ 0 ∷ 0 ∷ 0 ∷ 0 ∷ 0 ∷ 0 ∷ 12 ∷ 1 ∷ 2 ∷ []

-- the name 2, and 4, both(2, 0), which is as much; {2, 3} by step 1 and {2, 5} by step 3
abbrev also_top : List ℕ
also_top =
    0 ∷ 12 ∷ 0 ∷ 3 ∷ 0 ∷ 15 ∷ 0 ∷ 18 ∷ 0 ∷ 33 ∷ 0 ∷ 1
    ∷ 0 ∷ 0 ∷ 0
    ∷ 0 ∷ 0 ∷ 0 ∷ 0 ∷ 0 ∷ 0 ∷ 1 ∷ 0 ∷ 0 ∷ 0 ∷ 0 ∷ 0 ∷ 2 ∷ 0 ∷ 2 ∷ 0 ∷ 0 ∷ 0
    ∷ 0 ∷ []

abbrev denied : List ℕ
denied =
    2 ∷ 3 ∷ 0 ∷ 14 ∷ 0 ∷ 10 ∷ 0 ∷ 24 ∷ 0 ∷ 10 ∷ 0 ∷ 34 ∷ 0 ∷ 12
    ∷ 0 ∷ 0 ∷ 0 ∷ 0 ∷ 0 ∷ 0 ∷ 0 ∷ 12 ∷ 1 ∷ 2
    ∷ 0 ∷ 0 ∷ 0 ∷ 0 ∷ 0 ∷ 0 ∷ 0 ∷ 2 ∷ 1 ∷ 1
    ∷ 0 ∷ 0 ∷ 0 ∷ 0 ∷ 0 ∷ 0 ∷ 0 ∷ 36 ∷ 3 ∷ 2 ∷ 0 ∷ 1 ∷ []

-- the three answers; what each wants of its pieces
unfoldable pub answers : List (Trial × Outcome)
answers =
    (judges (top 0) 0 0 bottom graph0, tells (told HOLDS 0 0))
    ∷ (judges named 2 2 clash graph02, tells (told HOLDS 0 0))
    ∷ (judges named 2 2 clash graph02then0, tells (told HOLDS 0 0))
    -- of the graph only C is wanted, not D: 4 is open in it
    ∷ (judges also_top 2 4 denied graph02, tells (told HOLDS 0 0))
    ∷ (judges named 0 2 clash graph0, tells (told REFUSED 20 0))
    ∷ (judges named 0 2 bottom_clash graph0, tells (told REFUSED 20 1))
    ∷ (judges named 2 2 clash graph02then, tells (told REFUSED 11 1))
    ∷ (judges named 2 2 clash graph0, tells (told REFUSED 11 0))
    ∷ (judges (top 0) 0 1 graph0 [], tells (told FAILS 0 0))
    ∷ (judges named 0 2 graph0 [], tells (told REFUSED 11 0))
    ∷ (judges named 2 1 graph0 [], tells (told REFUSED 11 0))
    ∷ (judges (top 0) 1 0 bottom [], tells (told HOLDS_OF_NOTHING 0 0))
    -- literal 0 may stand in the last label, too
    ∷ (judges (top 0) 1 0 bottom_top [], tells (told HOLDS_OF_NOTHING 0 0))
    ∷ (judges named 2 2 clash [], tells (told REFUSED 20 0))
    ∷ []

-- the order of the tests: 8, though the root is not used; 24 of the literals; 9 of either piece; 24 of the kinds; the first piece whole
unfoldable pub orders : List (Trial × Outcome)
orders =
    (judges (top 1) 0 1 graph0 [], tells (told FAILS 0 0))
    ∷ (judges (top 2) 2 0 [] [], tells (told REFUSED 8 0))
    ∷ (judges (top 0) 2 0 [] [], tells (told REFUSED 24 0))
    ∷ (judges (top 0) 0 2 [] [], tells (told REFUSED 24 0))
    ∷ (judges (top 0) 0 255 [] [], tells (told REFUSED 24 0))
    ∷ (judges (top 0) 0 0 [] [], tells (told REFUSED 9 0))
    ∷ (judges (top 0) 0 0 [] graph0, tells (told REFUSED 9 0))
    ∷ (judges (top 0) 0 1 graph0 cut, tells (told REFUSED 9 0))
    ∷ (judges (top 0) 0 1 formless cut, tells (told REFUSED 9 0))
    ∷ (judges named 0 2 clash cut, tells (told REFUSED 9 0))
    ∷ (judges (top 0) 0 0 cut bottom, tells (told REFUSED 9 0))
    ∷ (judges (top 0) 0 0 cut cut, tells (told REFUSED 9 0))
    ∷ (judges (top 0) 0 0 graph0 bottom, tells (told REFUSED 24 0))
    ∷ (judges (top 0) 0 0 bottom bottom, tells (told REFUSED 24 0))
    ∷ (judges (top 0) 0 1 formless graph0, tells (told REFUSED 24 0))
    ∷ (judges (top 0) 0 1 formless [], tells (told REFUSED 10 0))
    ∷ (judges named 0 2 clash formless, tells (told REFUSED 20 0))
    ∷ (judges named 2 2 clash formless, tells (told REFUSED 10 0))
    ∷ []

abbrev Agree : List (Trial × Outcome) → Type 0
Agree ts = map (λ t. outcome t.0) ts ≡ map (λ t. t.1) ts

pub claims_hold : Agree answers × Agree orders
unfolding answers orders outcome
claims_hold = (refl, refl)
