-- What an "every" shows of a cell, and labels that grow by what is shown.
use Rattle.std.specs.Prelude.{ℕ, ◌*◌, ◌≡◌, Bool, false, ◌&&◌, ◌||◌, List, eqb, ltb}
use Rattle.logic.specs.Sets.{has}
use Rattle.description.specs.Literals.{Literal, code}
use Rattle.description.specs.Descriptions.{Entry, by_kind, entry_of_fields}
use Rattle.tables.specs.Tables.{fields_at}
use Rattle.labels.specs.Labels.{most_literals}
use Rattle.sources.specs.Sources.{carried}

-- the literals that a label has room for
abbrev pub room : ℕ
room = most_literals

-- a test that only an "every" can pass
unfoldable pub is_every : (ℕ → Literal → Bool) → Entry → Bool
is_every f = by_kind false (λ _ _. false) f (λ _ _ _. false)

-- ---- what an entry shows
-- entry f, an "every" over one of the cell's roles (`among`) to q, shows l: it shows q if the label N has the entry, and itself if it is carried on
abbrev pub passes : ℕ → Bool → Bool → ℕ → ℕ → ℕ → Bool
passes N on among f q l = among && ((has N (2 * f) && eqb q l) || (on && eqb (2 * f) l))

abbrev pub every_shows : List ℕ → ℕ → (ℕ → Bool) → (ℕ → Bool) → ℕ → ℕ → Bool
every_shows cs N on among l f = is_every (λ t q. passes N (on f) (among t) f (code q) l) (entry_of_fields (fields_at cs f))

-- entry f is an "every t q" that the label N carries on
abbrev pub carried_at : List ℕ → List ℕ → ℕ → ℕ → Bool
carried_at cs a N f = is_every (λ t q. carried cs a N t (code q)) (entry_of_fields (fields_at cs f))

-- the label M has entry f
abbrev pub entry_in : ℕ → ℕ → Bool
entry_in M f = has M (2 * f)

-- ---- labels that grow
-- there is room for the literal
abbrev pub in_room : ℕ → Bool
in_room l = ltb l room

-- the label M has what N has, and of what passes p what there is room for
abbrev pub Puts : ℕ → ℕ → (ℕ → Bool) → Type 0
Puts N M p = (l : ℕ) → has M l ≡ (has N l || (in_room l && p l))
