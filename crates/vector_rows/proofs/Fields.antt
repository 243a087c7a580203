-- Fields, as the library's `split` gives them: what stands between marks.
use Rattle.std.specs.Prelude.{ℕ, zero, suc, ◌+◌, ◌≡◌, refl, Bool, true, false, cond, List, [], ◌∷◌, eqb, length, get_or, drop}
use Rattle.std.specs.List.{slice_split, onto_first, slice_get}
use Rattle.std.specs.Option.{option_map, unwrap_or}
use Rattle.std.proofs.Common.{◌∙◌, sym, ap, arith, Option, Some, None, Bor}
use Rattle.std.proofs.lemmas.Option.{unwrap_or-slice_get}
use Rattle.vector_rows.specs.Rows.{until, skip, field_of}

grown : (x k : ℕ) (ps : List (List ℕ)) → get_or (onto_first x ps) (suc k) [] ≡ get_or ps (suc k) []
grown x k [] = refl
grown x k (p ∷ ps) = refl

grown_first : (x : ℕ) (ps : List (List ℕ)) → get_or (onto_first x ps) 0 [] ≡ x ∷ get_or ps 0 []
grown_first x [] = refl
grown_first x (p ∷ ps) = refl

none_more : (k : ℕ) → get_or {A = List ℕ} ([] ∷ []) k [] ≡ []
none_more zero = refl
none_more (suc k) = refl

module _ (mark : ℕ) where
  first_part : (xs : List ℕ) → get_or (slice_split (λ c. eqb c mark) xs) 0 [] ≡ until mark xs
  unfolding until
  first_part [] = refl
  first_part (x ∷ xs) = go (eqb x mark) (first_part xs)
    where
      go : (b : Bool) → get_or (slice_split (λ c. eqb c mark) xs) 0 [] ≡ until mark xs
          → get_or (cond b ([] ∷ slice_split (λ c. eqb c mark) xs) (onto_first x (slice_split (λ c. eqb c mark) xs))) 0 [] ≡ cond b [] (x ∷ until mark xs)
      go true h = refl
      go false h = rw (grown_first x (slice_split (λ c. eqb c mark) xs), h) refl

  next_part : (k : ℕ) (xs : List ℕ) → get_or (slice_split (λ c. eqb c mark) xs) (suc k) [] ≡ get_or (slice_split (λ c. eqb c mark) (drop (length (until mark xs) + 1) xs)) k []
  unfolding until
  next_part k [] = sym (none_more k)
  next_part k (x ∷ xs) = go (eqb x mark) (next_part k xs)
    where
      go : (b : Bool) → get_or (slice_split (λ c. eqb c mark) xs) (suc k) [] ≡ get_or (slice_split (λ c. eqb c mark) (drop (length (until mark xs) + 1) xs)) k []
          → get_or (cond b ([] ∷ slice_split (λ c. eqb c mark) xs) (onto_first x (slice_split (λ c. eqb c mark) xs))) (suc k) []
          ≡ get_or (slice_split (λ c. eqb c mark) (drop (length (cond b [] (x ∷ until mark xs)) + 1) (x ∷ xs))) k []
      go true h = refl
      go false h =
          let e : suc (length (until mark xs)) + 1 ≡ suc (length (until mark xs) + 1) = omega arith in
          rw e (grown x k (slice_split (λ c. eqb c mark) xs) ∙ h)

  -- field k is part k, and nothing past the last
  field_split : (k : ℕ) (xs : List ℕ) → get_or (slice_split (λ c. eqb c mark) xs) k [] ≡ field_of mark k xs
  unfolding skip
  field_split zero xs = first_part xs
  field_split (suc k) xs = next_part k xs ∙ field_split k (drop (length (until mark xs) + 1) xs)

now_or : {A : Type 0} (r : Option (Bor A)) (d : Bor A) → (unwrap_or r d).now ≡ unwrap_or (option_map (λ x. x.now) r) d.now
now_or (Some x) d = refl
now_or None d = refl

-- what `nth` and `unwrap_or` give
pub field_or : (mark k : ℕ) (xs : List ℕ) (r : Option (Bor (List ℕ))) (d : Bor (List ℕ)) → d.now ≡ []
    → option_map (λ x. x.now) r ≡ slice_get (slice_split (λ c. eqb c mark) xs) k → (unwrap_or r d).now ≡ field_of mark k xs
field_or mark k xs r d n e =
    now_or r d ∙ ap (λ o. unwrap_or o d.now) e ∙ unwrap_or-slice_get (slice_split (λ c. eqb c mark) xs) k d.now
    ∙ ap (λ z. get_or (slice_split (λ c. eqb c mark) xs) k z) n ∙ field_split mark k xs
