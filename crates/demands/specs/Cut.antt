-- The first bytes of evidence, all that its answer goes by (01, "Evidence"; the numbers of a pair have two bytes).
use Rattle.std.specs.Prelude.{ℕ, suc, ◌+◌, List, take}

-- the last place where a pair's record can end
abbrev pub farthest : ℕ
farthest = 65535 + 65535

-- the first bytes of evidence, one more than pairs can fill
abbrev pub cut : List ℕ → List ℕ
cut s = take (suc farthest) s
