-- The bytes of a tree, in preorder (01, "The counting step"; FORMAT 6). That they are read back, and written again as they were read, is
-- in proofs/Trees.
use Prim.Native.Nat.{ℕ, ◌+◌, ◌<◌}
use mathlib.Core.List.{List, ◌∷◌, ◌++◌}
use Rattle.counting.specs.Trees.{Tree, leaf, split}
use Rattle.laying.specs.Places.{Small}
use Rattle.laying.specs.Numbers.{two}

-- a leaf is 0 and its multipliers; a split is 1, its cell, its value, its first half and its second
unfoldable pub encode_tree : Tree → List ℕ
encode_tree (leaf ms) = 0 ∷ ms
encode_tree (split c v l r) = 1 ∷ c ∷ (two v ++ (encode_tree l ++ encode_tree r))

-- the numbers that have one byte, and the values, which have two
abbrev pub TreeWidth : Tree → Type 0
TreeWidth (leaf ms) = Small ms
TreeWidth (split c v l r) = (c < 256) × (v < 65536) × TreeWidth l × TreeWidth r
