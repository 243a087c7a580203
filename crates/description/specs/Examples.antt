-- Worked examples: tests 3 to 8 and 26 of a description, each on both sides, their order, ancestors and simple roles.
use Rattle.std.specs.Prelude.{ℕ, ◌+◌, ◌^◌, ◌≡◌, refl, Bool, true, false, List, [], ◌∷◌, map, ltb, length, get_or}
use Rattle.std.proofs.Math.Option.{Option, none, some}
use Rattle.logic.specs.Bounded.{all_below, any_below}
use Rattle.logic.specs.Closure.{closure}
use Rattle.logic.specs.Lists.{tabulate}
use Rattle.logic.specs.Sets.{has, narrow}
use Rattle.description.specs.Literals.{Literal, pos, literal}
use Rattle.description.specs.Descriptions.{Entry, top, name, both, every, at_least, Disjoint, Description, same_entry, if_every, if_least}
use Rattle.description.specs.Roles.{ancestor, simple}
use Rattle.description.specs.Acceptance.{entry_test, description_refusal, description_tests}

-- ---- a description from lists
pub record Role : Type 0 where
  pub transitive : Bool
  pub parents : ℕ

-- a role with that parent mask, and a transitive one
abbrev pub under : ℕ → Role
under mask = record { transitive = false; parents = mask }

abbrev pub transitive_under : ℕ → Role
transitive_under mask = record { transitive = true; parents = mask }

abbrev pub disjoint_of : ℕ → ℕ → Disjoint
disjoint_of one other = record { one = one; other = other }

abbrev pub with_disjoint : List Disjoint → List Role → List Entry → Literal → List Literal → Description
with_disjoint pairs roles entries root rules = record {
  roles = length roles;
  transitive = λ r. (get_or roles r (under 0)).transitive;
  parents = λ r. (get_or roles r (under 0)).parents;
  entries = length entries;
  entry = λ e. get_or entries e top;
  root = root;
  rules = length rules;
  rule = λ i. get_or rules i (pos 0);
  disjoints = length pairs;
  disjoint = λ i. get_or pairs i (disjoint_of 0 0);
  fourth = ltb 0 (length pairs);
}

-- with none
abbrev pub table_of : List Role → List Entry → Literal → List Literal → Description
table_of = with_disjoint []

-- the literal with that number
abbrev pub lit : ℕ → Literal
lit l = literal l

-- a set by its members, such as a label by its literals' numbers
abbrev pub bits : List ℕ → ℕ
bits [] = 0
bits (l ∷ ls) = 2 ^ l + bits ls

-- ---- descriptions and the number of their refusal
record Trial : Type 0 where
  pub given : Description
  pub answer : Option ℕ

abbrev trial : List Role → List Entry → ℕ → List ℕ → Option ℕ → Trial
trial roles entries root rules answer = record { given = table_of roles entries (lit root) (map (λ l. lit l) rules); answer = answer }

-- one role, or two, with entries, and literal 0 as the root
abbrev of_entries : List Entry → Option ℕ → Trial
of_entries entries = trial (under 0 ∷ []) entries 0 []

abbrev of_roles : List Role → List Entry → Option ℕ → Trial
of_roles roles entries = trial roles entries 0 []

-- role 0 is transitive and under role 1
abbrev chained : List Entry → Option ℕ → Trial
chained = of_roles (transitive_under 2 ∷ under 0 ∷ [])

-- roles with records of two that never share a filler
abbrev of_disjoint : List Disjoint → List Role → ℕ → Option ℕ → Trial
of_disjoint pairs roles root answer = record { given = with_disjoint pairs roles (top ∷ []) (lit root) []; answer = answer }

trials : List Trial
trials =
    -- 3: a parent that is not in the table is refused; the last role, and the role itself, are not
    of_roles (under 2 ∷ []) (top ∷ []) (some 3)
    ∷ of_roles (under 0 ∷ under 4 ∷ []) (top ∷ []) (some 3)
    ∷ of_roles (under 1 ∷ []) (top ∷ []) none
    ∷ of_roles (under 3 ∷ under 3 ∷ []) (top ∷ []) none
    -- a cycle of inclusions is no fault; with a transitive role in it none of its roles is simple
    ∷ of_roles (under 2 ∷ under 1 ∷ []) (top ∷ at_least 0 (lit 0) 1 ∷ at_least 1 (lit 0) 1 ∷ []) none
    ∷ of_roles (transitive_under 2 ∷ under 1 ∷ []) (top ∷ at_least 0 (lit 0) 1 ∷ []) (some 5)
    ∷ of_roles (transitive_under 2 ∷ under 1 ∷ []) (top ∷ at_least 1 (lit 0) 1 ∷ []) (some 5)
    -- a role above no transitive one is simple, be it under one
    ∷ of_roles (under 2 ∷ transitive_under 0 ∷ []) (top ∷ at_least 0 (lit 0) 1 ∷ []) none
    ∷ of_roles (under 2 ∷ transitive_under 0 ∷ []) (top ∷ at_least 1 (lit 0) 1 ∷ []) (some 5)
    -- 4: entry 0 is top, and no other is
    ∷ of_entries (name ∷ []) (some 4)
    ∷ of_entries (name ∷ top ∷ []) (some 4)
    ∷ of_entries (top ∷ top ∷ []) (some 4)
    -- 4: a literal of an earlier entry, not of the entry itself or a later one
    ∷ of_entries (top ∷ name ∷ both (lit 2) (lit 3) ∷ []) none
    ∷ of_entries (top ∷ name ∷ both (lit 4) (lit 2) ∷ []) (some 4)
    ∷ of_entries (top ∷ name ∷ both (lit 2) (lit 4) ∷ []) (some 4)
    ∷ of_entries (top ∷ name ∷ both (lit 2) (lit 5) ∷ []) (some 4)
    ∷ of_entries (top ∷ name ∷ every 0 (lit 3) ∷ []) none
    ∷ of_entries (top ∷ name ∷ every 0 (lit 4) ∷ []) (some 4)
    ∷ of_entries (top ∷ name ∷ at_least 0 (lit 3) 1 ∷ []) none
    ∷ of_entries (top ∷ name ∷ at_least 0 (lit 4) 1 ∷ []) (some 4)
    ∷ of_entries (top ∷ every 0 (lit 4) ∷ name ∷ []) (some 4)
    -- 4: a number from 1 to 1,000
    ∷ of_entries (top ∷ at_least 0 (lit 0) 0 ∷ []) (some 4)
    ∷ of_entries (top ∷ at_least 0 (lit 0) 1 ∷ []) none
    ∷ of_entries (top ∷ at_least 0 (lit 0) 1000 ∷ []) none
    ∷ of_entries (top ∷ at_least 0 (lit 0) 1001 ∷ []) (some 4)
    -- 4: a role of the table
    ∷ of_roles (under 0 ∷ under 0 ∷ []) (top ∷ every 1 (lit 0) ∷ at_least 1 (lit 0) 1 ∷ []) none
    ∷ of_roles (under 0 ∷ under 0 ∷ []) (top ∷ every 2 (lit 0) ∷ []) (some 4)
    ∷ of_roles (under 0 ∷ under 0 ∷ []) (top ∷ at_least 2 (lit 0) 1 ∷ []) (some 4)
    -- 6: two equal entries of kinds 2 to 4, next to one another or not
    ∷ of_entries (top ∷ name ∷ both (lit 2) (lit 0) ∷ both (lit 2) (lit 0) ∷ []) (some 6)
    ∷ of_entries (top ∷ every 0 (lit 0) ∷ name ∷ every 0 (lit 0) ∷ []) (some 6)
    ∷ of_entries (top ∷ at_least 0 (lit 0) 2 ∷ name ∷ at_least 0 (lit 0) 2 ∷ []) (some 6)
    -- 6: not names, nor entries with one field apart: the order of two literals, the kind, the role, the literal, the number
    ∷ of_entries (top ∷ name ∷ name ∷ []) none
    ∷ of_entries (top ∷ name ∷ name ∷ both (lit 2) (lit 5) ∷ both (lit 5) (lit 2) ∷ []) none
    ∷ of_roles (under 0 ∷ under 0 ∷ []) (top ∷ every 0 (lit 0) ∷ every 1 (lit 0) ∷ every 0 (lit 1) ∷ []) none
    ∷ of_roles (under 0 ∷ under 0 ∷ []) (top ∷ every 0 (lit 0) ∷ at_least 0 (lit 0) 1 ∷ at_least 0 (lit 0) 2 ∷ at_least 1 (lit 0) 1 ∷ []) none
    -- 7: the "every T l" may stand later or earlier, of the same role and literal; a role under R that is not transitive asks for none
    ∷ chained (top ∷ name ∷ every 1 (lit 2) ∷ every 0 (lit 2) ∷ []) none
    ∷ chained (top ∷ name ∷ every 0 (lit 2) ∷ every 1 (lit 2) ∷ []) none
    ∷ chained (top ∷ name ∷ every 1 (lit 2) ∷ every 0 (lit 3) ∷ []) (some 7)
    ∷ chained (top ∷ name ∷ every 0 (lit 2) ∷ []) none
    ∷ of_roles (under 2 ∷ transitive_under 0 ∷ []) (top ∷ name ∷ every 1 (lit 2) ∷ []) none
    -- 7: through a role in between
    ∷ of_roles (transitive_under 2 ∷ under 4 ∷ under 0 ∷ []) (top ∷ every 2 (lit 0) ∷ []) (some 7)
    ∷ of_roles (transitive_under 2 ∷ under 4 ∷ under 0 ∷ []) (top ∷ every 2 (lit 0) ∷ every 0 (lit 0) ∷ []) none
    -- 8: the root and each rule are literals of the table
    ∷ trial (under 0 ∷ []) (top ∷ name ∷ []) 3 (3 ∷ 0 ∷ []) none
    ∷ trial (under 0 ∷ []) (top ∷ name ∷ []) 4 [] (some 8)
    ∷ trial (under 0 ∷ []) (top ∷ name ∷ []) 0 (0 ∷ 4 ∷ []) (some 8)
    ∷ trial (under 0 ∷ []) (top ∷ name ∷ []) 0 (4 ∷ 0 ∷ []) (some 8)
    -- the smallest number first, over the whole description: 3 before 4, 4 before 5, 5 before 6, 6 before 7, 7 before 8
    ∷ of_roles (under 0 ∷ under 4 ∷ []) (name ∷ []) (some 3)
    ∷ chained (top ∷ at_least 1 (lit 0) 1 ∷ top ∷ []) (some 4)
    ∷ chained (top ∷ every 0 (lit 0) ∷ every 0 (lit 0) ∷ at_least 1 (lit 0) 1 ∷ []) (some 5)
    ∷ chained (top ∷ every 1 (lit 0) ∷ name ∷ at_least 0 (lit 0) 1 ∷ []) (some 5)
    ∷ chained (top ∷ every 1 (lit 0) ∷ name ∷ every 1 (lit 0) ∷ []) (some 6)
    ∷ trial (transitive_under 2 ∷ under 0 ∷ []) (top ∷ every 1 (lit 0) ∷ []) 4 [] (some 7)
    -- 26: two roles of the table, not the same; one may be under the other, and a record may come again, or turned round
    ∷ of_disjoint (disjoint_of 0 1 ∷ disjoint_of 1 0 ∷ disjoint_of 0 1 ∷ []) (under 0 ∷ under 0 ∷ []) 0 none
    ∷ of_disjoint (disjoint_of 0 1 ∷ []) (under 2 ∷ under 0 ∷ []) 0 none
    ∷ of_disjoint (disjoint_of 0 2 ∷ []) (under 0 ∷ under 0 ∷ []) 0 (some 26)
    ∷ of_disjoint (disjoint_of 2 0 ∷ []) (under 0 ∷ under 0 ∷ []) 0 (some 26)
    ∷ of_disjoint (disjoint_of 0 1 ∷ disjoint_of 1 1 ∷ []) (under 0 ∷ under 0 ∷ []) 0 (some 26)
    -- both simple: neither transitive nor above a transitive role
    ∷ of_disjoint (disjoint_of 1 2 ∷ []) (transitive_under 0 ∷ under 0 ∷ under 0 ∷ []) 0 none
    ∷ of_disjoint (disjoint_of 0 1 ∷ []) (transitive_under 0 ∷ under 0 ∷ under 0 ∷ []) 0 (some 26)
    ∷ of_disjoint (disjoint_of 2 1 ∷ []) (transitive_under 2 ∷ under 0 ∷ under 0 ∷ []) 0 (some 26)
    -- 8 before 26
    ∷ of_disjoint (disjoint_of 1 1 ∷ []) (under 0 ∷ under 0 ∷ []) 2 (some 8)
    ∷ []

trials_hold : map (λ t. description_refusal t.given) trials ≡ map (λ t. t.answer) trials
unfolding trials description_tests all_below any_below narrow entry_test literal if_least if_every simple ancestor closure has same_entry
trials_hold = refl

-- ---- ancestors, and simple roles
-- which of n by n pairs pass, row by row
abbrev table : ℕ → (ℕ → ℕ → Bool) → List (List Bool)
table n f = tabulate n (λ r. tabulate n (f r))

-- 0 under 1 under 2: each role itself and those above it
chain_ancestors : table 3 (ancestor (table_of (under 2 ∷ under 4 ∷ under 0 ∷ []) (top ∷ []) (lit 0) []))
    ≡ ((true ∷ true ∷ true ∷ []) ∷ (false ∷ true ∷ true ∷ []) ∷ (false ∷ false ∷ true ∷ []) ∷ [])
unfolding tabulate ancestor closure has
chain_ancestors = refl

-- 0 under 1 and 1 under 0, beside 2
cycle_ancestors : table 3 (ancestor (table_of (under 2 ∷ under 1 ∷ under 0 ∷ []) (top ∷ []) (lit 0) []))
    ≡ ((true ∷ true ∷ false ∷ []) ∷ (true ∷ true ∷ false ∷ []) ∷ (false ∷ false ∷ true ∷ []) ∷ [])
unfolding tabulate ancestor closure has
cycle_ancestors = refl

-- 0 under 1 under 2: simple are the roles below the transitive one
abbrev simples_of : List Role → List Bool
simples_of roles = tabulate 3 (simple (table_of roles (top ∷ []) (lit 0) []))

chain_simples : (simples_of (under 2 ∷ under 4 ∷ under 0 ∷ []) ≡ (true ∷ true ∷ true ∷ []))
    × (simples_of (transitive_under 2 ∷ under 4 ∷ under 0 ∷ []) ≡ (false ∷ false ∷ false ∷ []))
    × (simples_of (under 2 ∷ transitive_under 4 ∷ under 0 ∷ []) ≡ (true ∷ false ∷ false ∷ []))
    × (simples_of (under 2 ∷ under 4 ∷ transitive_under 0 ∷ []) ≡ (true ∷ true ∷ false ∷ []))
unfolding tabulate simple all_below ancestor closure has
chain_simples = (refl, refl, refl, refl)
