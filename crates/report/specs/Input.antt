-- The two parts of the program's input (01, "Trial descriptions"; FORMAT 10): the description has its length in front, and ends early where bytes are missing.
use Rattle.std.specs.Prelude.{ℕ, ◌+◌, ◌≡◌, List, length, take, drop}
use Rattle.std.proofs.Common.{arith, length-drop, take_all}
use Rattle.parts.specs.Numbers.{num2}

abbrev pub description_in : List ℕ → List ℕ
description_in i = take (num2 i 0) (drop 2 i)

abbrev pub evidence_in : List ℕ → List ℕ
evidence_in i = drop (2 + num2 i 0) i

-- all that follows is at most the whole
pub evidence_rest : (i : List ℕ) (n : ℕ) → n ≡ num2 i 0 → take (length i) (drop (2 + n) i) ≡ evidence_in i
evidence_rest i n p = let l = length-drop (2 + n) i in rw (← p) (take_all (length i) (drop (2 + n) i) (omega arith))
