-- Trials of roles that never share a filler (02, job 5), on bytes: 26 and what it comes before, edges, cells with the mark and without, with
-- four pairs, with four and no record, and with three.
use Rattle.std.specs.Prelude.{ℕ, ◌+◌, ◌/◌, ◌%◌, ◌≡◌, refl, List, [], ◌∷◌, ◌++◌, map, length}
use Rattle.answers.specs.Answers.{REFUSED, INHABITED, EMPTY, WRITTEN, HOLDS_OF_NOTHING}
use Rattle.trials.specs.Trials.{Trial, checks, writes, judges, Outcome, tells, leaves, outcome, told}

abbrev number : ℕ → List ℕ
number n = n / 256 ∷ n % 256 ∷ []

-- the pairs of these parts, the first of which begins at a place
abbrev pairs : ℕ → List (List ℕ) → List ℕ
pairs at [] = []
pairs at (p ∷ ps) = number at ++ number (length p) ++ pairs (at + length p) ps

abbrev joined : List (List ℕ) → List ℕ
joined [] = []
joined (p ∷ ps) = p ++ joined ps

abbrev three_parts : List ℕ → List ℕ → List ℕ → List ℕ
three_parts rs cs qs = let ps = rs ∷ cs ∷ qs ∷ [] in pairs 12 ps ++ joined ps

abbrev four_parts : List ℕ → List ℕ → List ℕ → List ℕ → List ℕ
four_parts rs cs qs ds = let ps = rs ∷ cs ∷ qs ∷ ds ∷ [] in pairs 16 ps ++ joined ps

abbrev top : List ℕ
top = 0 ∷ 0 ∷ 0 ∷ 0 ∷ 0 ∷ 0 ∷ []

-- ---- two roles without inclusions, the entry top, the root top
abbrev two : List ℕ → List ℕ
two = four_parts (0 ∷ 0 ∷ 0 ∷ 0 ∷ 0 ∷ 0 ∷ []) top (0 ∷ [])

-- a node with label {0} and loops of those masks
abbrev loops : List ℕ → List ℕ
loops [] = []
loops (m ∷ ms) = 0 ∷ 0 ∷ m ∷ 0 ∷ 1 ∷ loops ms

abbrev node : List ℕ → List ℕ
node masks = let r : List ℕ = 0 ∷ 0 ∷ 0 ∷ 0 ∷ 0 ∷ 0 ∷ 0 ∷ 1 ∷ loops masks in 1 ∷ 1 ∷ number 6 ++ number (length r) ++ r

-- ---- roles 1 and 2 under role 0, or 3 under 1 and 4 under 2
abbrev under : List ℕ
under = 0 ∷ 0 ∷ 0 ∷ 0 ∷ 0 ∷ 1 ∷ 0 ∷ 0 ∷ 1 ∷ []

abbrev lower : List ℕ
lower = under ++ 0 ∷ 0 ∷ 3 ∷ 0 ∷ 0 ∷ 5 ∷ []

-- some filler of role r, some of role s, at least 2 of role 0; both(2, 4), both(7, 8): both fillers, and at most one of role 0
abbrev entries : ℕ → ℕ → List ℕ
entries r s = top ++ 4 ∷ r ∷ 0 ∷ 0 ∷ 0 ∷ 1 ∷ 4 ∷ s ∷ 0 ∷ 0 ∷ 0 ∷ 1 ∷ 4 ∷ 0 ∷ 0 ∷ 0 ∷ 0 ∷ 2 ∷ 2 ∷ 0 ∷ 2 ∷ 4 ∷ 0 ∷ 0 ∷ 2 ∷ 0 ∷ 8 ∷ 7 ∷ 0 ∷ 0 ∷ []

abbrev probes : List ℕ → List ℕ
probes = four_parts under (entries 1 2) (10 ∷ [])

abbrev deeper : List ℕ → List ℕ
deeper = four_parts lower (entries 3 4) (10 ∷ [])

-- that literal 10 is empty, with the bytes of cells 1, 3, 4 and 7 of the step: cells 3 and 7 have both roles
abbrev list : ℕ → ℕ → ℕ → ℕ → List ℕ
list one three four seven = 2 ∷ 4 ∷ 0 ∷ 18 ∷ 0 ∷ 10 ∷ 0 ∷ 28 ∷ 0 ∷ 24 ∷ 0 ∷ 52 ∷ 0 ∷ 11 ∷ 0 ∷ 63 ∷ 0 ∷ 11
    ∷ 0 ∷ 0 ∷ 0 ∷ 0 ∷ 0 ∷ 0 ∷ 0 ∷ 2 ∷ 1 ∷ 1
    ∷ 0 ∷ 0 ∷ 0 ∷ 0 ∷ 0 ∷ 0 ∷ 0 ∷ 148 ∷ 6 ∷ 3 ∷ 2 ∷ 4 ∷ 7 ∷ one ∷ 0 ∷ three ∷ four ∷ 255 ∷ 255 ∷ seven ∷ 0 ∷ 1 ∷ 1 ∷ 1
    ∷ 0 ∷ 0 ∷ 0 ∷ 0 ∷ 0 ∷ 0 ∷ 1 ∷ 128 ∷ 2 ∷ 4 ∷ 1
    ∷ 0 ∷ 0 ∷ 0 ∷ 0 ∷ 0 ∷ 0 ∷ 4 ∷ 0 ∷ 2 ∷ 5 ∷ 2 ∷ []

abbrev weighs : List ℕ → List ℕ → ℕ → ℕ → Trial × Outcome
weighs d s n r = (checks d s, tells (told REFUSED n r))

abbrev marked : List ℕ
marked = list 0 254 255 254

pub descriptions : List (Trial × Outcome)
descriptions =
    -- 26 comes before 9, before 24 of a claim, and before the buffer is short; 8 before it
    weighs (two (1 ∷ 1 ∷ [])) [] 26 0
    ∷ (judges (two (1 ∷ 1 ∷ [])) 255 0 [] [], tells (told REFUSED 26 0))
    ∷ (writes (two (1 ∷ 1 ∷ [])) (node []) [], leaves (told REFUSED 26 0) 0 [])
    ∷ weighs (four_parts (0 ∷ 0 ∷ 0 ∷ 0 ∷ 0 ∷ 0 ∷ []) top (2 ∷ []) (1 ∷ 1 ∷ [])) [] 8 0
    -- 13: an edge with both roles; with one of them, and two edges with one each, nothing is refused; nor without a record
    ∷ weighs (two (0 ∷ 1 ∷ [])) (node (3 ∷ [])) 13 0
    ∷ (checks (two (0 ∷ 1 ∷ [])) (node (1 ∷ 2 ∷ [])), tells (told INHABITED 0 0))
    ∷ (checks (two []) (node (3 ∷ [])), tells (told INHABITED 0 0))
    -- written, the two edges take a copy each
    ∷ (
      writes (two (0 ∷ 1 ∷ [])) (node (1 ∷ 2 ∷ [])) (9 ∷ 9 ∷ 9 ∷ 9 ∷ 9 ∷ 9 ∷ 9 ∷ 9 ∷ 9 ∷ 9 ∷ 9 ∷ 9 ∷ 9 ∷ 9 ∷ 9 ∷ 9 ∷ 9 ∷ 9 ∷ []),
      leaves (told WRITTEN 0 0) 17 (2 ∷ 0 ∷ 0 ∷ 0 ∷ 0 ∷ 0 ∷ 0 ∷ 0 ∷ 0 ∷ 0 ∷ 1 ∷ 0 ∷ 2 ∷ 0 ∷ 1 ∷ 0 ∷ 2 ∷ 9 ∷ []),
    )
    ∷ []

pub cells : List (Trial × Outcome)
cells =
    -- the mark on both barred cells and on no other; also by a record turned round, and through the ancestors of the rows' roles
    (checks (probes (1 ∷ 2 ∷ [])) marked, tells (told EMPTY 0 0))
    ∷ (checks (probes (2 ∷ 1 ∷ [])) marked, tells (told EMPTY 0 0))
    ∷ (checks (deeper (1 ∷ 2 ∷ [])) marked, tells (told EMPTY 0 0))
    ∷ (checks (deeper (3 ∷ 2 ∷ [])) marked, tells (told EMPTY 0 0))
    ∷ (judges (probes (1 ∷ 2 ∷ [])) 10 0 marked [], tells (told HOLDS_OF_NOTHING 0 0))
    -- a barred cell that is open, or cites a record that fits: 18; the record itself is not earlier: 16
    ∷ weighs (probes (1 ∷ 2 ∷ [])) (list 0 255 255 254) 18 1
    ∷ weighs (probes (1 ∷ 2 ∷ [])) (list 0 0 255 254) 18 1
    ∷ weighs (probes (1 ∷ 2 ∷ [])) (list 0 254 255 255) 18 1
    ∷ weighs (deeper (1 ∷ 2 ∷ [])) (list 0 255 255 254) 18 1
    ∷ weighs (probes (1 ∷ 2 ∷ [])) (list 0 1 255 254) 16 1
    ∷ weighs (probes (1 ∷ 2 ∷ [])) (list 0 253 255 254) 16 1
    -- the mark on a cell that is not barred
    ∷ weighs (probes (1 ∷ 2 ∷ [])) (list 254 254 255 254) 18 1
    ∷ weighs (probes (1 ∷ 2 ∷ [])) (list 0 254 254 254) 18 1
    -- four pairs and no record: nothing is barred, and the mark is 18; without it the leaf stays open
    ∷ weighs (probes []) marked 18 1
    ∷ weighs (probes []) (list 0 0 255 255) 19 1
    -- three pairs: the mark is the number of a record that is not earlier
    ∷ weighs (three_parts under (entries 1 2) (10 ∷ [])) marked 16 1
    ∷ weighs (three_parts under (entries 1 2) (10 ∷ [])) (list 0 0 255 255) 19 1
    ∷ []

abbrev Agree : List (Trial × Outcome) → Type 0
Agree ts = map (λ t. outcome t.0) ts ≡ map (λ t. t.1) ts

pub disjoint_trials : Agree descriptions × Agree cells
unfolding descriptions cells outcome
disjoint_trials = (refl, refl)
