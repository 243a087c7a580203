-- What the editor's code lays into bytes.
use Rattle.std.specs.Prelude.{ℕ, ◌+◌, ◌/◌, ◌%◌, length}
use mathlib.Core.List.{List, [], ◌∷◌, flatten}
use Rattle.logic.specs.Sets.{with}
use Rattle.parts.specs.Numbers.{byte_at, num2}
use Rattle.laying.specs.Numbers.{two}
use Rattle.laying.specs.Laying.{laid_in}
use Rattle.tables.specs.declared.Fields.{Fields}

-- bytes with the bit of p in the parents of the role at a place
abbrev pub with_parent : List ℕ → ℕ → ℕ → List ℕ
with_parent bytes at p = laid_in bytes at (byte_at bytes at ∷ two (with (num2 bytes (at + 1)) p))

-- the six bytes of an entry
abbrev pub six_bytes : Fields → List ℕ
six_bytes f = f.kind ∷ f.role ∷ f.first ∷ f.second ∷ f.number / 256 % 256 ∷ f.number % 256 ∷ []

-- the pairs of parts of a, b and c bytes
abbrev pub pair_pieces : ℕ → ℕ → ℕ → List (List ℕ)
pair_pieces a b c = two 12 ∷ two a ∷ two (12 + a) ∷ two b ∷ two (12 + a + b) ∷ two c ∷ []

unfoldable pub pairs_of : ℕ → ℕ → ℕ → List ℕ
pairs_of a b c = flatten (pair_pieces a b c)

-- how long the description of three parts is
abbrev pub size_with : List ℕ → List ℕ → List ℕ → ℕ
size_with rs cs qs = 12 + length rs + length cs + length qs
