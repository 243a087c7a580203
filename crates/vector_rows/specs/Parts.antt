-- Parts that a mark ends, and steps that are given one part after the other.
use Rattle.std.specs.Prelude.{ℕ, ◌≡◌, cond, List, [], ◌∷◌, eqb, Result, Ok, MatchResult}
use Rattle.std.specs.List.{onto_first}
use Rattle.std.specs.Fn.{Mut, CalledAt}
use denote.Ref.{Bor}

-- the parts that a mark ends, and what stands behind the last mark, if there is any
abbrev pub parts_of : ℕ → List ℕ → List (List ℕ)
parts_of mark [] = []
parts_of mark (x ∷ xs) = cond (eqb x mark) ([] ∷ parts_of mark xs) (onto_first x (parts_of mark xs))

-- the step f is called at each of xs in turn, up to the first that fails, and r is what the last call gives
module _ {F X E : Type 0} (g : Mut F (Bor X × Unit {0}) (Result (Unit {0}) E)) where
  abbrev pub Steps : F → List X → Result (Unit {0}) E → Type 0
  Steps f [] r = r ≡ Ok tt
  Steps f (x ∷ xs) r = (s : Result (Unit {0}) E) × (f' : F) × CalledAt g f x s f' × MatchResult s (λ u. Steps f' xs r) (λ e. r ≡ s)
