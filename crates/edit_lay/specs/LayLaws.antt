-- What is laid one behind the other is a whole description.
use Rattle.std.specs.Prelude.{ℕ, ◌+◌, ◌≤◌, ◌≡◌, refl, length}
use Rattle.std.proofs.Common.{sym, ◌∙◌, ap, subst, arith, length-append}
use mathlib.Core.List.{List, [], ◌∷◌, ◌++◌, flatten, append-nil}
use Rattle.laying.specs.Numbers.{two}
use Rattle.laying.specs.Laying.{laid, laid_in, laid_from, laid_fits, laid_pieces, laid_output}
use Rattle.answers.specs.Answers.{over}
use Rattle.edit_bytes.specs.Out.{with_pairs}
use Rattle.edit_lay.specs.Lays.{pair_pieces, pairs_of, size_with}

-- the six numbers of the pairs
pub pairs_laid : (old : List ℕ) (a b c : ℕ) → 12 ≤ length old
    → laid_in (laid_in (laid_in (laid_in (laid_in (laid_in old 0 (two 12)) 2 (two a)) 4 (two (12 + a))) 6 (two b)) 8 (two (12 + a + b))) 10
    (two c)
    ≡ laid old 0 (pairs_of a b c)
unfolding laid_from pairs_of flatten
pairs_laid old a b c h = laid_pieces 0 (pair_pieces a b c) old (omega arith)

-- the three parts
pub parts_laid : (old rs cs qs : List ℕ) → laid_in (laid_in (laid_in old 12 rs) (12 + length rs) cs) (12 + length rs + length cs) qs
    ≡ laid_from 12 (rs ∷ cs ∷ qs ∷ []) old
unfolding laid_from
parts_laid old rs cs qs = refl

-- all of it
pub with_pairs_long : (rs cs qs : List ℕ) → length (with_pairs rs cs qs) ≡ size_with rs cs qs
with_pairs_long rs cs qs = omega (arith, length-append rs (cs ++ qs), length-append cs qs)

pub description_laid : (old rs cs qs : List ℕ) → size_with rs cs qs ≤ length old
    → laid_from 12 (rs ∷ cs ∷ qs ∷ []) (laid old 0 (pairs_of (length rs) (length cs) (length qs)))
    ≡ over (with_pairs rs cs qs) old
unfolding laid_from pairs_of flatten
description_laid old rs cs qs h =
    ap (laid_from 12 (rs ∷ cs ∷ qs ∷ [])) (sym (laid_fits old 0 (pairs_of (length rs) (length cs) (length qs)) (omega arith)))
    ∙ laid_output pieces old (subst (λ w. length w ≤ length old) (sym out_is) (omega (arith, with_pairs_long rs cs qs)))
    ∙ ap (λ w. over w old) out_is
  where
    pieces : List (List ℕ)
    pieces = pairs_of (length rs) (length cs) (length qs) ∷ rs ∷ cs ∷ qs ∷ []

    out_is : flatten pieces ≡ with_pairs rs cs qs
    out_is = ap (λ q. pairs_of (length rs) (length cs) (length qs) ++ (rs ++ (cs ++ q))) (append-nil qs)
