-- Rows as the code holds them: at most six in an array (01, "The counting step"; FORMAT 6).
use Rattle.std.specs.Prelude as Rust
use Rattle.std.specs.Prelude.{Some, None, ℕ, ◌+◌, Bool, true, false, cond, List, [], ltb, get_or, take}
use Rattle.std.proofs.Math.Option.{Option, none, some}
use Rattle.logic.specs.Lists.{tabulate}
use Rattle.parts.specs.Numbers.{byte_at, up_to}
use Rattle.counting.specs.Trees as Counting
use Rattle.description.specs.Literals.{literal, code}
use Rattle.description.specs.Descriptions.{Description}
use Rattle.refutation.specs.Cells as Theory
use Rattle.refutation.specs.Cells.{row_of, row_from}
use Rattle.tables.specs.Tables.{describe}
use Rattle.tables.specs.declared.LiteralConcept.{LiteralConcept}
use Rattle.tables.specs.declared.LiteralConcept.TheVariants.{Not}
use Rattle.tables.specs.declared.Concept.{Concept}
use Rattle.tables.specs.declared.Concept.TheVariants.{Top, Name, Both, Every, AtLeast}
use Rattle.nodes.specs.NodeSteps.{opposed}
use Rattle.tables.specs.declared.Side.{Side}
use Rattle.tables.specs.declared.Side.TheVariants.{Lower, Upper}
use Rattle.rows.specs.declared.Row.{Row}

-- entries and a query without roles: what a step names, and which rows literals give, is told by these alone
abbrev pub without_roles : List ℕ → List ℕ → Description
without_roles cs qs = describe [] cs qs none

-- a side as the code's, and back
abbrev pub held_side : Counting.Side → Side
held_side Counting.lower = Lower
held_side Counting.upper = Upper

abbrev pub side_of : Side → Counting.Side
side_of Lower = Counting.lower
side_of Upper = Counting.upper

-- a row as the code's, and back: its qualifier by the literal's number
abbrev pub held : Theory.Row → Row
held R = record { role = record { 0 = R.role }; qualifier = code R.qualifier; bound = R.bound; side = held_side R.side }

abbrev pub given : Row → Theory.Row
given x = record { role = x.role.0; qualifier = literal x.qualifier; side = side_of x.side; bound = x.bound }

abbrev pub held_row : Option Theory.Row → Rust.Option Row
held_row none = None
held_row (some R) = Some (held R)

-- the paper's number of each case: a literal in a counting step that gives no row is 17
abbrev pub row_refusal : Rust.Option Row → Option ℕ
row_refusal (Some x) = none
row_refusal None = some 17

abbrev pub there : Option Theory.Row → Bool
there none = false
there (some R) = true

abbrev pub no_row : Row
no_row = record { role = record { 0 = 0 }; qualifier = 0; bound = 0; side = Lower }

-- row i of an array
unfoldable pub held_at : List Row → ℕ → Row
held_at rows i = cond (ltb i 6) (get_or rows i no_row) no_row

-- row i of the first k rows of an array, of at most 6; none past them
abbrev pub first_at : List Row → ℕ → ℕ → Row
first_at rows k i = get_or (take (up_to 6 k) rows) i no_row

-- the first k rows of an array
abbrev pub rows_held : List Row → ℕ → List Theory.Row
rows_held rows k = tabulate k (λ i. given (held_at rows i))

-- row i of the step ds
abbrev pub row_in : List ℕ → List ℕ → ℕ → Row
row_in cs ds i = held (row_from (row_of (without_roles cs []) (literal (byte_at ds (2 + i)))))

-- the row that a concept gives: a count its own
abbrev pub count_row : Concept → Rust.Option Row
count_row Top = None
count_row Name = None
count_row (Both a b) = None
count_row (Every r l) = None
count_row (AtLeast m) = Some (record { role = m.role; qualifier = m.literal; bound = m.bound; side = m.side })

-- and a denied one: an "every" that of "some"
abbrev pub some_row : Concept → Rust.Option Row
some_row Top = None
some_row Name = None
some_row (Both a b) = None
some_row (Every r l) = Some (record { role = r; qualifier = opposed l; bound = 1; side = Lower })
some_row (AtLeast m) = None

abbrev pub concept_row : LiteralConcept → Rust.Option Row
concept_row (LiteralConcept.Is c) = count_row c
concept_row (Not c) = some_row c
