-- The next part of those that a mark ends, for a loop that goes from mark to mark.
use Rattle.std.specs.Prelude.{ℕ, suc, ◌+◌, ◌-◌, ◌<◌, ◌≡◌, refl, Bool, true, false, cond, List, [], ◌∷◌, eqb, length, take, drop}
use Rattle.std.specs.List.{onto_first}
use Rattle.std.proofs.Common.{sym, ◌∙◌, ap, arith, length-drop, drop-drop}
use Rattle.vector_rows.specs.Rows.{until}
use Rattle.vector_rows.specs.Parts.{parts_of}

module _ (mark : ℕ) where
  grown : (x : ℕ) (b : Bool) (ys u : List ℕ) → parts_of mark ys ≡ u ∷ parts_of mark (drop (length u + 1) ys)
      → cond b ([] ∷ parts_of mark ys) (onto_first x (parts_of mark ys)) ≡ cond b [] (x ∷ u) ∷ parts_of mark (drop (length (cond b [] (x ∷ u)) + 1) (x ∷ ys))
  grown x true ys u h = refl
  grown x false ys u h = let e : suc (length u) + 1 ≡ suc (length u + 1) = omega arith in rw (h, e) refl

  last : (x : ℕ) (b : Bool) → cond b ([] ∷ []) (onto_first x []) ≡ cond b [] (x ∷ []) ∷ parts_of mark (drop (length (cond b [] (x ∷ [])) + 1) (x ∷ []))
  last x true = refl
  last x false = refl

  first_of : (xs : List ℕ) → 0 < length xs → parts_of mark xs ≡ until mark xs ∷ parts_of mark (drop (length (until mark xs) + 1) xs)
  unfolding until
  first_of [] h = absurd (omega arith)
  first_of (x ∷ []) h = last x (eqb x mark)
  first_of (x ∷ y ∷ zs) h = grown x (eqb x mark) (y ∷ zs) (until mark (y ∷ zs)) (first_of (y ∷ zs) (omega arith))

  pub take_until : (xs : List ℕ) → take (length (until mark xs)) xs ≡ until mark xs
  unfolding until
  take_until [] = refl
  take_until (x ∷ xs) = go (eqb x mark) (take_until xs)
    where
      go : (b : Bool) → take (length (until mark xs)) xs ≡ until mark xs → take (length (cond b [] (x ∷ until mark xs))) (x ∷ xs) ≡ cond b [] (x ∷ until mark xs)
      go true h = refl
      go false h = ap (λ ys. x ∷ ys) h

  -- the part from place `at` to the mark, and those behind the mark
  pub next_part : (all : List ℕ) (at end : ℕ) → at < length all → end ≡ at + length (until mark (drop at all))
      → parts_of mark (drop at all) ≡ take (end - at) (drop at all) ∷ parts_of mark (drop (end + 1) all)
  next_part all at end h e =
      let n : end - at ≡ length (until mark (drop at all)) = omega arith in
      let m : at + (length (until mark (drop at all)) + 1) ≡ end + 1 = omega arith in
      let k : 0 < length (drop at all) = rw length-drop (omega arith) in
      first_of (drop at all) k
      ∙ ap (λ ys. until mark (drop at all) ∷ parts_of mark ys) (drop-drop (length (until mark (drop at all)) + 1) at all ∙ ap (λ i. drop i all) m)
      ∙ ap (λ p. p ∷ parts_of mark (drop (end + 1) all)) (sym (ap (λ i. take i (drop at all)) n ∙ take_until (drop at all)))
