-- Worked examples: each kind of entry where it is true and where it is not, and lines that hold or fail, each for one reason.
use Rattle.std.specs.Prelude.{ℕ, ◌≡◌, refl, Bool, true, false, List, [], ◌∷◌, map, get_or}
use Rattle.logic.specs.Bounded.{all_below, any_below}
use Rattle.logic.specs.Lists.{each, tabulate}
use Rattle.logic.specs.Sets.{has}
use Rattle.logic.specs.Sums.{sum_below}
use Rattle.description.specs.Literals.{Literal, literal}
use Rattle.description.specs.Descriptions.{Entry, top, name, both, every, at_least, Disjoint, Description, compatible}
use Rattle.description.specs.Examples.{Role, under, transitive_under, disjoint_of, with_disjoint, table_of, lit}
use Rattle.interpretation.specs.Meaning.{Interpretation, meaning, truth_with, truth, holds}
use Rattle.interpretation.specs.Reading.{includes, composes, separates, follows, satisfies, reads}

-- an interpretation from masks: for each entry the elements that have the name, for each role and element the fillers
abbrev line_of : ℕ → List ℕ → List (List ℕ) → Interpretation
line_of size names roles = record {
  size = size;
  name = λ e x. has (get_or names e 0) x;
  role = λ r x y. has (get_or (get_or roles r []) x 0) y;
}

-- ---- truth
-- role 0 is under role 1, which is transitive
abbrev pub two_roles : List Role
two_roles = under 2 ∷ transitive_under 0 ∷ []

abbrev pub entries : List Entry
entries =
    -- 1, 2: names A and B; 3: A and not B
    top ∷ name ∷ name ∷ both (lit 2) (lit 5)
    -- 4: every filler of role 0 has A; 5: B; 6: every filler of role 1 has not A
    ∷ every 0 (lit 2) ∷ every 0 (lit 4) ∷ every 1 (lit 3)
    -- 7: at least two fillers of role 0 have A; 8: at least two have B; 9: at least one has B; 10: at least one has not A
    ∷ at_least 0 (lit 2) 2 ∷ at_least 0 (lit 4) 2 ∷ at_least 0 (lit 4) 1 ∷ at_least 0 (lit 3) 1
    ∷ []

-- A has elements 1 and 2, B has element 2; role 0 has the pairs 0 1, 0 2, 1 2, and so has role 1
abbrev pub line : Interpretation
line = line_of 3 (0 ∷ 6 ∷ 4 ∷ []) ((6 ∷ 4 ∷ 0 ∷ []) ∷ (6 ∷ 4 ∷ 0 ∷ []) ∷ [])

-- the literal at elements 0, 1 and 2
abbrev at_each : ℕ → List Bool
at_each l = tabulate 3 (holds (table_of two_roles entries (lit 0) []) line (lit l))

truths : map at_each (0 ∷ 2 ∷ 4 ∷ 6 ∷ 8 ∷ 10 ∷ 12 ∷ 14 ∷ 16 ∷ 18 ∷ 20 ∷ []) ≡ (
    -- top; A; B; A and not B
    (true ∷ true ∷ true ∷ []) ∷ (false ∷ true ∷ true ∷ []) ∷ (false ∷ false ∷ true ∷ []) ∷ (false ∷ true ∷ false ∷ [])
    -- every filler has A; has B (element 0 has one without it, element 2 no filler); has not A (so only where there is none)
    ∷ (true ∷ true ∷ true ∷ []) ∷ (false ∷ true ∷ true ∷ []) ∷ (false ∷ false ∷ true ∷ [])
    -- two fillers with A; two with B (element 0 has two fillers, one of them with B); one with B
    ∷ (true ∷ false ∷ false ∷ []) ∷ (false ∷ false ∷ false ∷ []) ∷ (true ∷ true ∷ false ∷ [])
    -- one without A: element 0 has not A, but is no filler
    ∷ (false ∷ false ∷ false ∷ [])
    ∷ [])
unfolding tabulate literal truth truth_with meaning all_below sum_below has
truths = refl

-- the complements are true just where the entries are not
complements : map at_each (1 ∷ 3 ∷ 7 ∷ 11 ∷ 15 ∷ []) ≡ ((false ∷ false ∷ false ∷ []) ∷ (true ∷ false ∷ false ∷ []) ∷ (true ∷ false ∷ true ∷ [])
    ∷ (true ∷ false ∷ false ∷ []) ∷ (false ∷ true ∷ true ∷ []) ∷ [])
unfolding tabulate literal truth truth_with meaning all_below sum_below has
complements = refl

-- ---- lines that hold, and lines that fail
record Trial : Type 0 where
  pub given : Description
  pub read : Interpretation
  pub wanted : List Literal
  pub answer : Bool

-- the line above, with rules and wanted literals
abbrev of_line : List ℕ → List ℕ → Bool → Trial
of_line rules wanted answer = record {
  given = table_of two_roles entries (lit 0) (map (λ l. lit l) rules);
  read = line;
  wanted = map (λ l. lit l) wanted;
  answer = answer;
}

-- a line without names, for roles, with no rules and nothing wanted
abbrev of_pairs : List Role → ℕ → List (List ℕ) → Bool → Trial
of_pairs roles size pairs answer = record { given = table_of roles (top ∷ []) (lit 0) []; read = line_of size [] pairs; wanted = []; answer = answer }

-- the same for three roles, of which some never share a filler
abbrev of_disjoint : List Disjoint → ℕ → List (List ℕ) → Bool → Trial
of_disjoint pairs size roles answer = record {
  given = with_disjoint pairs (under 0 ∷ under 0 ∷ under 0 ∷ []) (top ∷ []) (lit 0) [];
  read = line_of size [] roles;
  wanted = [];
  answer = answer;
}

trials : List Trial
trials =
    -- a model that has the root at one element, not at all
    of_line (8 ∷ []) (4 ∷ []) true
    -- the root is nowhere
    ∷ of_line (8 ∷ []) (16 ∷ []) false
    -- two wanted literals: at one element; each at some element, but not both at one
    ∷ of_line [] (2 ∷ 4 ∷ []) true
    ∷ of_line [] (4 ∷ 6 ∷ []) false
    -- no rule and nothing wanted; a rule that fails at the last element only, at the first only, and a second rule that fails
    ∷ of_line [] [] true
    ∷ of_line (5 ∷ []) [] false
    ∷ of_line (2 ∷ []) [] false
    ∷ of_line (8 ∷ 5 ∷ []) [] false
    -- size 0
    ∷ of_pairs two_roles 0 [] false
    ∷ of_pairs two_roles 1 [] true
    -- the pair 0 1 of role 0 is one of role 1; or is not, though 1 0 is; a pair of role 1 need not be one of role 0
    ∷ of_pairs two_roles 2 ((2 ∷ []) ∷ (2 ∷ []) ∷ []) true
    ∷ of_pairs two_roles 2 ((2 ∷ []) ∷ (0 ∷ 1 ∷ []) ∷ []) false
    ∷ of_pairs two_roles 2 ((0 ∷ []) ∷ (2 ∷ []) ∷ []) true
    -- pairs 0 1 and 1 2 of the transitive role 1: with 0 2, and without
    ∷ of_pairs two_roles 3 ([] ∷ (6 ∷ 4 ∷ []) ∷ []) true
    ∷ of_pairs two_roles 3 ([] ∷ (2 ∷ 4 ∷ []) ∷ []) false
    -- of role 0, which is not transitive
    ∷ of_pairs two_roles 3 ((2 ∷ 4 ∷ []) ∷ (6 ∷ 4 ∷ []) ∷ []) true
    -- 0 1 and 1 0 ask for 0 0 and 1 1
    ∷ of_pairs two_roles 2 ([] ∷ (2 ∷ 1 ∷ []) ∷ []) false
    ∷ of_pairs two_roles 2 ([] ∷ (3 ∷ 3 ∷ []) ∷ []) true
    -- roles 0 and 1 never share a filler: 0 1 of one and 0 0 of the other; 0 1 of both; 0 1 and 1 0; a second record
    ∷ of_disjoint (disjoint_of 0 1 ∷ []) 2 ((2 ∷ []) ∷ (1 ∷ []) ∷ []) true
    ∷ of_disjoint (disjoint_of 0 1 ∷ []) 2 ((2 ∷ []) ∷ (2 ∷ []) ∷ []) false
    ∷ of_disjoint (disjoint_of 0 1 ∷ []) 2 ((2 ∷ []) ∷ (0 ∷ 1 ∷ []) ∷ []) true
    ∷ of_disjoint (disjoint_of 0 2 ∷ disjoint_of 1 0 ∷ []) 2 ((0 ∷ 2 ∷ []) ∷ (0 ∷ 2 ∷ []) ∷ []) false
    -- without a record they may
    ∷ of_disjoint [] 2 ((2 ∷ []) ∷ (2 ∷ []) ∷ []) true
    -- a role that is under itself, or in a cycle of inclusions
    ∷ of_pairs (under 1 ∷ []) 2 ((2 ∷ []) ∷ []) true
    ∷ of_pairs (under 2 ∷ under 1 ∷ []) 2 ((2 ∷ []) ∷ (2 ∷ []) ∷ []) true
    ∷ of_pairs (under 2 ∷ under 1 ∷ []) 2 ((2 ∷ []) ∷ (3 ∷ []) ∷ []) false
    ∷ []

trials_hold : map (λ t. reads t.given t.read t.wanted) trials ≡ map (λ t. t.answer) trials
unfolding trials includes composes separates compatible follows satisfies all_below any_below each literal truth truth_with meaning sum_below has
trials_hold = refl
