-- Worked examples: bytes of descriptions and the number of their refusal, each test on both sides.
use Rattle.std.specs.Prelude.{ℕ, zero, suc, ◌+◌, ◌/◌, ◌%◌, ◌≡◌, refl, List, [], ◌∷◌, ◌++◌, map, length}
use Rattle.std.proofs.Math.Option.{Option, none, some}
use Rattle.logic.specs.Bounded.{all_below, any_below}
use Rattle.logic.specs.Closure.{closure}
use Rattle.logic.specs.Sets.{has, narrow}
use Rattle.parts.specs.Pairs.{fills, fills_from}
use Rattle.description.specs.Literals.{literal}
use Rattle.description.specs.Descriptions.{entry_from, same_entry, if_every, if_least}
use Rattle.description.specs.Roles.{ancestor, simple}
use Rattle.description.specs.Acceptance.{entry_test, description_tests}
use Rattle.intake.specs.Intake.{sizes_test, parts_test, bytes_test}

record Trial : Type 0 where
  pub given : List ℕ
  pub answer : Option ℕ

abbrev trial : List ℕ → Option ℕ → Trial
trial given answer = record { given = given; answer = answer }

-- a pair of bytes, high byte first, and the three parts behind their pairs
abbrev number : ℕ → List ℕ
number n = n / 256 ∷ n % 256 ∷ []

abbrev parts : List ℕ → List ℕ → List ℕ → Option ℕ → Trial
parts roles concepts query = trial (
    number 12 ++ number (length roles) ++ number (12 + length roles) ++ number (length concepts)
    ++ number (12 + length roles + length concepts) ++ number (length query) ++ roles ++ concepts ++ query
    )

-- four parts
abbrev four_parts : List ℕ → List ℕ → List ℕ → List ℕ → Option ℕ → Trial
four_parts roles concepts query disjoint = trial (
    number 16 ++ number (length roles) ++ number (16 + length roles) ++ number (length concepts)
    ++ number (16 + length roles + length concepts) ++ number (length query)
    ++ number (16 + length roles + length concepts + length query) ++ number (length disjoint) ++ roles ++ concepts ++ query ++ disjoint
    )

-- a role, and an entry by its fields
abbrev role : ℕ → ℕ → List ℕ
role transitive parents = transitive ∷ number parents

abbrev entry : ℕ → ℕ → ℕ → ℕ → ℕ → List ℕ
entry kind r first second n = kind ∷ r ∷ first ∷ second ∷ number n

abbrev top : List ℕ
top = entry 0 0 0 0 0

abbrev name : List ℕ
name = entry 1 0 0 0 0

-- the same bytes n times
times : ℕ → List ℕ → List ℕ
times zero xs = []
times (suc n) xs = xs ++ times n xs

-- one role and those entries, or role 0 transitive below role 1; the root is literal 0
abbrev entries : List ℕ → Option ℕ → Trial
entries concepts = parts (role 0 0) concepts (0 ∷ [])

abbrev chained : List ℕ → Option ℕ → Trial
chained concepts = parts (role 1 2 ++ role 0 0) concepts (0 ∷ [])

-- roles with records of two that never share a filler; the root is literal 0
abbrev disjoint : List ℕ → List ℕ → Option ℕ → Trial
disjoint roles records = four_parts roles top (0 ∷ []) records

trials : List Trial
trials =
    -- byte by byte: one transitive role, top, the root top
    trial (0 ∷ 12 ∷ 0 ∷ 3 ∷ 0 ∷ 15 ∷ 0 ∷ 6 ∷ 0 ∷ 21 ∷ 0 ∷ 1 ∷ 1 ∷ 0 ∷ 0 ∷ 0 ∷ 0 ∷ 0 ∷ 0 ∷ 0 ∷ 0 ∷ 0 ∷ []) none
    -- 1: no byte; a byte more; a first part that does not begin at 12; an end of 65,547 that 16 bits would take for 11
    ∷ trial [] (some 1)
    ∷ trial (0 ∷ 12 ∷ 0 ∷ 3 ∷ 0 ∷ 15 ∷ 0 ∷ 6 ∷ 0 ∷ 21 ∷ 0 ∷ 1 ∷ 0 ∷ 0 ∷ 0 ∷ 0 ∷ 0 ∷ 0 ∷ 0 ∷ 0 ∷ 0 ∷ 0 ∷ 0 ∷ []) (some 1)
    ∷ trial (0 ∷ 11 ∷ 0 ∷ 4 ∷ 0 ∷ 15 ∷ 0 ∷ 6 ∷ 0 ∷ 21 ∷ 0 ∷ 1 ∷ 0 ∷ 0 ∷ 0 ∷ 0 ∷ 0 ∷ 0 ∷ 0 ∷ 0 ∷ 0 ∷ 0 ∷ []) (some 1)
    ∷ trial (0 ∷ 12 ∷ 255 ∷ 255 ∷ 0 ∷ 11 ∷ 0 ∷ 0 ∷ 0 ∷ 11 ∷ 0 ∷ 1 ∷ []) (some 1)
    -- 2: a part of length 0, or of no whole number of records
    ∷ parts [] top (0 ∷ []) (some 2)
    ∷ parts (role 0 0) [] (0 ∷ []) (some 2)
    ∷ parts (role 0 0) top [] (some 2)
    ∷ parts (0 ∷ 0 ∷ []) top (0 ∷ []) (some 2)
    ∷ parts (role 0 0) (0 ∷ top) (0 ∷ []) (some 2)
    -- 2: 16 and 17 roles, 32, 33, 64 and 65 entries, 16 and 17 rules
    ∷ parts (times 16 (role 0 0)) top (0 ∷ []) none
    ∷ parts (times 17 (role 0 0)) top (0 ∷ []) (some 2)
    ∷ parts (role 0 0) (top ++ times 31 name) (0 ∷ []) none
    ∷ parts (role 0 0) (top ++ times 32 name) (0 ∷ []) none
    ∷ parts (role 0 0) (top ++ times 63 name) (0 ∷ []) none
    ∷ parts (role 0 0) (top ++ times 64 name) (0 ∷ []) (some 2)
    ∷ parts (role 0 0) top (times 17 (0 ∷ [])) none
    ∷ parts (role 0 0) top (times 18 (0 ∷ [])) (some 2)
    -- 3: the transitive byte, and a parent in the low byte and in the high one
    ∷ parts (role 1 0) top (0 ∷ []) none
    ∷ parts (role 2 0) top (0 ∷ []) (some 3)
    ∷ parts (role 0 1) top (0 ∷ []) none
    ∷ parts (role 0 2) top (0 ∷ []) (some 3)
    ∷ parts (role 0 256) top (0 ∷ []) (some 3)
    -- 4: a kind that is not known, and a field that the kind does not use
    ∷ entries (top ++ name) none
    ∷ entries (top ++ entry 5 0 0 0 0) (some 4)
    ∷ entries (entry 0 0 0 0 1) (some 4)
    ∷ entries (top ++ entry 1 0 1 0 0) (some 4)
    ∷ entries (top ++ entry 2 0 0 1 0) none
    ∷ entries (top ++ entry 2 1 0 1 0) (some 4)
    ∷ entries (top ++ entry 3 0 1 0 0) none
    ∷ entries (top ++ entry 3 0 1 1 0) (some 4)
    ∷ entries (top ++ entry 4 0 1 0 1000) none
    ∷ entries (top ++ entry 4 0 1 0 1001) (some 4)
    ∷ entries (top ++ entry 4 0 1 1 1) (some 4)
    -- 4: a literal of the entry itself
    ∷ entries (top ++ entry 3 0 2 0 0) (some 4)
    -- 5: the transitive role, and the one above it
    ∷ chained (top ++ entry 4 0 1 0 2) (some 5)
    ∷ chained (top ++ entry 4 1 1 0 2) (some 5)
    -- 4 before 5, though its entry is later
    ∷ chained (top ++ entry 4 1 0 0 1 ++ entry 4 1 0 0 0) (some 4)
    -- 6: twins, of a kind and of names
    ∷ entries (top ++ entry 2 0 0 1 0 ++ entry 2 0 0 1 0) (some 6)
    ∷ entries (top ++ entry 2 0 0 1 0 ++ entry 2 0 1 0 0) none
    ∷ entries (top ++ name ++ name) none
    -- 7: without the other "every", and with it, later
    ∷ chained (top ++ entry 3 1 1 0 0) (some 7)
    ∷ chained (top ++ name ++ entry 3 1 2 0 0 ++ entry 3 0 2 0 0) none
    -- 8: the root, and a rule
    ∷ parts (role 0 0) top (1 ∷ 1 ∷ []) none
    ∷ parts (role 0 0) top (2 ∷ []) (some 8)
    ∷ parts (role 0 0) top (0 ∷ 0 ∷ 2 ∷ []) (some 8)
    ∷ []

-- four pairs (02, job 5)
fourths : List Trial
fourths =
    -- byte by byte: two roles, top, the root top, and that the roles never share a filler
    trial (0 ∷ 16 ∷ 0 ∷ 6 ∷ 0 ∷ 22 ∷ 0 ∷ 6 ∷ 0 ∷ 28 ∷ 0 ∷ 1 ∷ 0 ∷ 29 ∷ 0 ∷ 2
    ∷ 0 ∷ 0 ∷ 0 ∷ 0 ∷ 0 ∷ 0 ∷ 0 ∷ 0 ∷ 0 ∷ 0 ∷ 0 ∷ 0 ∷ 0 ∷ 0 ∷ 1 ∷ []) none
    -- 1: a first offset of 16 means four pairs, so 12 or 15 bytes are too few, and three parts behind a gap are off
    ∷ trial (0 ∷ 16 ∷ 0 ∷ 0 ∷ 0 ∷ 16 ∷ 0 ∷ 0 ∷ 0 ∷ 16 ∷ 0 ∷ 0 ∷ []) (some 1)
    ∷ trial (0 ∷ 16 ∷ 0 ∷ 0 ∷ 0 ∷ 16 ∷ 0 ∷ 0 ∷ 0 ∷ 16 ∷ 0 ∷ 0 ∷ 0 ∷ 16 ∷ 0 ∷ []) (some 1)
    ∷ trial (0 ∷ 16 ∷ 0 ∷ 3 ∷ 0 ∷ 19 ∷ 0 ∷ 6 ∷ 0 ∷ 25 ∷ 0 ∷ 1 ∷ 0 ∷ 0 ∷ 0 ∷ 0 ∷ 0 ∷ 0 ∷ 0 ∷ 0 ∷ 0 ∷ 0 ∷ 0 ∷ 0 ∷ 0 ∷ 0 ∷ []) (some 1)
    -- 1: any other first offset means three
    ∷ trial (0 ∷ 12 ∷ 0 ∷ 3 ∷ 0 ∷ 15 ∷ 0 ∷ 6 ∷ 0 ∷ 21 ∷ 0 ∷ 1 ∷ 0 ∷ 22 ∷ 0 ∷ 0 ∷ 0 ∷ 0 ∷ 0 ∷ 0 ∷ 0 ∷ 0 ∷ 0 ∷ 0 ∷ 0 ∷ 0 ∷ []) (some 1)
    -- 2: four parts of no byte; no record, 16 and 17 of them, part of one; it comes before 3
    ∷ four_parts [] [] [] [] (some 2)
    ∷ disjoint (role 0 0) [] none
    ∷ disjoint (role 0 0 ++ role 0 0) (times 16 (0 ∷ 1 ∷ [])) none
    ∷ disjoint (role 0 0 ++ role 0 0) (times 17 (0 ∷ 1 ∷ [])) (some 2)
    ∷ disjoint (role 0 0 ++ role 0 0) (0 ∷ 1 ∷ 0 ∷ []) (some 2)
    ∷ disjoint (role 2 0) (0 ∷ []) (some 2)
    -- 26: a role past the table, also one whose byte is 16 more than that of a role of the table, and in a later record
    ∷ disjoint (role 0 0 ++ role 0 0) (0 ∷ 2 ∷ []) (some 26)
    ∷ disjoint (role 0 0 ++ role 0 0) (2 ∷ 0 ∷ []) (some 26)
    ∷ disjoint (role 0 0 ++ role 0 0) (0 ∷ 17 ∷ []) (some 26)
    ∷ disjoint (role 0 0 ++ role 0 0) (0 ∷ 255 ∷ []) (some 26)
    ∷ disjoint (role 0 0 ++ role 0 0) (0 ∷ 1 ∷ 0 ∷ 2 ∷ []) (some 26)
    -- 26: the same role twice
    ∷ disjoint (role 0 0 ++ role 0 0) (1 ∷ 1 ∷ []) (some 26)
    -- 26: a role that is not simple, transitive or above a transitive one; a role below one is
    ∷ disjoint (role 1 0 ++ role 0 0) (0 ∷ 1 ∷ []) (some 26)
    ∷ disjoint (role 1 2 ++ role 0 0 ++ role 0 0) (2 ∷ 1 ∷ []) (some 26)
    ∷ disjoint (role 0 2 ++ role 1 0 ++ role 0 0) (0 ∷ 2 ∷ []) none
    -- one role may be below the other; a record may come again, or turned round
    ∷ disjoint (role 0 2 ++ role 0 0) (0 ∷ 1 ∷ 1 ∷ 0 ∷ 0 ∷ 1 ∷ []) none
    -- 8 before 26
    ∷ four_parts (role 0 0 ++ role 0 0) top (2 ∷ []) (1 ∷ 1 ∷ []) (some 8)
    ∷ []

abbrev Agree : List Trial → Type 0
Agree ts = map (λ t. bytes_test t.given) ts ≡ map (λ t. t.answer) ts

trials_hold : Agree trials × Agree fourths
unfolding trials fourths times bytes_test parts_test sizes_test fills fills_from description_tests all_below any_below narrow entry_test literal entry_from if_least if_every simple ancestor closure has same_entry
trials_hold = (refl, refl)
