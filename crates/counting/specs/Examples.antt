-- The counting step of a worked example, which trials cites; the examples stand in proofs/Examples.
use Rattle.std.specs.Prelude.{ℕ, Bool, ◌||◌, List, [], ◌∷◌, eqb}
use Rattle.counting.specs.Trees.{lower, upper, Tree, leaf, split}
use Rattle.counting.specs.Rows.{Bound}

abbrev pub at_least : ℕ → Bound
at_least b = record { side = lower; value = b }

abbrev pub at_most : ℕ → Bound
at_most b = record { side = upper; value = b }

-- ---- a step that fractions meet and no fillers do: one A, one B and one C in all, and every filler is two of the three
-- rows 0 to 5: at least 1 A, at most 1 A, and so on; open are A and B (15), A and C (51), B and C (60)
unfoldable pub abc : ℕ → List Bound
abc b = at_least b ∷ at_most b ∷ at_least b ∷ at_most b ∷ at_least b ∷ at_most b ∷ []

unfoldable pub abc_open : ℕ → Bool
abc_open c = eqb c 15 || (eqb c 51 || eqb c 60)

-- no filler has A and B: then one has A and C and one has B and C, which makes two C. One has: then no other has A or B, and none has C.
unfoldable pub abc_tree : Tree
abc_tree = split 15 0 (leaf (1 ∷ 0 ∷ 1 ∷ 0 ∷ 0 ∷ 1 ∷ 2 ∷ [])) (leaf (0 ∷ 1 ∷ 0 ∷ 1 ∷ 1 ∷ 0 ∷ 2 ∷ []))
