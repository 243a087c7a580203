-- Limits on the sizes of cells, and the trees that show that no sizes keep them (01, "The counting step"; FORMAT 6).
-- Over any numbered cells below n, of which some are open; a row is a limit, and so is each half of a split.
use Rattle.std.specs.Prelude.{ℕ, suc, ◌+◌, ◌*◌, ◌≤◌, ◌<◌, max, Bool, true, false, ◌&&◌, List, [], ◌∷◌, ◌++◌, eqb, leb, ltb, ℤ, pos, length}
use Rattle.std.proofs.Math.IntN.{sub_ℕ}
use Rattle.std.specs.Int.Signed.{lt_z}
use Rattle.logic.specs.Tests.{So, ◌⇒◌}
use Rattle.logic.specs.Bounded.{all_below}
use Rattle.logic.specs.Sums.{sum_below, only}

pub data Side : Type 0 where
  lower upper : Side

abbrev pub same_side : Side → Side → Bool
same_side lower lower = true
same_side lower upper = false
same_side upper lower = false
same_side upper upper = true

-- a bound on the side of a total t: at least b, or at most b
abbrev pub Meets : Side → ℕ → ℕ → Type 0
Meets lower b t = b ≤ t
Meets upper b t = t ≤ b

-- a limit: a side, a bound, and the cells whose sizes are added up
pub data Limit : Type 0 where
  limit : Side → ℕ → (ℕ → Bool) → Limit

-- the two halves of a split of cell c at v: at most v, and at least v + 1
abbrev pub at_most : ℕ → ℕ → Limit
at_most c v = limit upper v (eqb c)

abbrev pub more_than : ℕ → ℕ → Limit
more_than c v = limit lower (suc v) (eqb c)

-- a leaf holds a multiplier for each limit on its way: the rows, then the halves of the splits passed, outermost first;
-- a split holds its cell, its value, and the trees of its two halves
pub data Tree : Type 0 where
  leaf : List ℕ → Tree
  split : (c v : ℕ) → Tree → Tree → Tree

-- what the multiplier m of a limit adds on the side s: at the cell c, and to the total
abbrev pub share : Side → Limit → ℕ → ℕ → ℕ
share s (limit r b k) m c = only (same_side s r && k c) m

abbrev pub price : Side → Limit → ℕ → ℕ
price s (limit r b k) m = only (same_side s r) (m * b)

-- the coefficient of cell c on the side s: the multipliers of the limits there that count it, added up
abbrev pub weight : Side → List Limit → List ℕ → ℕ → ℕ
weight s [] ms c = 0
weight s (l ∷ ls) [] c = 0
weight s (l ∷ ls) (m ∷ ms) c = share s l m c + weight s ls ms c

-- the total of the side s (01: lower total, upper total): its bounds, each by its multiplier, added up
abbrev pub worth : Side → List Limit → List ℕ → ℕ
worth s [] ms = 0
worth s (l ∷ ls) [] = 0
worth s (l ∷ ls) (m ∷ ms) = price s l m + worth s ls ms

-- a leaf's gap as an integer: what the lower total has more than the upper, or less
abbrev pub gap : List Limit → List ℕ → ℤ
gap ls ms = sub_ℕ (worth lower ls ms) (worth upper ls ms)

-- an open cell; cell 0, the fillers that count in no row, is none
abbrev pub live : (ℕ → Bool) → ℕ → Bool
live open? c = ltb 0 c && open? c

module _ (n : ℕ) (open? : ℕ → Bool) where
  -- the sizes x of the open cells that k counts, added up
  abbrev pub total : (ℕ → ℕ) → (ℕ → Bool) → ℕ
  total x k = sum_below n (λ c. only (live open? c && k c) (x c))

  abbrev pub Holds : (ℕ → ℕ) → Limit → Type 0
  Holds x (limit s b k) = Meets s b (total x k)

  -- the sizes x keep every limit
  abbrev pub HoldAll : List Limit → (ℕ → ℕ) → Type 0
  HoldAll [] x = Unit {0}
  HoldAll (l ∷ ls) x = Holds x l × HoldAll ls x

  -- a leaf closes: no open cell weighs more on the lower side, and yet the lower total is the greater
  pub record LeafCloses (ls : List Limit) (ms : List ℕ) : Type 0 where
    pub balanced : (c : ℕ) → c < n → So (live open? c) → weight lower ls ms c ≤ weight upper ls ms c
    pub above_zero : So (lt_z (pos 0) (gap ls ms))

  -- a tree closes: each split is of an open cell, and every leaf closes under the limits on its way
  abbrev pub TreeCloses : List Limit → Tree → Type 0
  TreeCloses ls (leaf ms) = LeafCloses ls ms
  TreeCloses ls (split c v l r) = (c < n) × So (live open? c) × TreeCloses (ls ++ (at_most c v ∷ [])) l × TreeCloses (ls ++ (more_than c v ∷ [])) r

  -- the test, with a limit on the values of splits
  unfoldable pub leaf_test : List Limit → List ℕ → Bool
  leaf_test ls ms = all_below n (λ c. live open? c ⇒ leb (weight lower ls ms c) (weight upper ls ms c)) && lt_z (pos 0) (gap ls ms)

  unfoldable pub tree_test : (ℕ → Bool) → List Limit → Tree → Bool
  tree_test fits ls (leaf ms) = leaf_test ls ms
  tree_test fits ls (split c v l r) = (ltb c n && (live open? c && fits v))
      && (tree_test fits (ls ++ (at_most c v ∷ [])) l && tree_test fits (ls ++ (more_than c v ∷ [])) r)

-- every split's value is within the limit
abbrev pub ValuesFit : (ℕ → Bool) → Tree → Type 0
ValuesFit fits (leaf ms) = Unit {0}
ValuesFit fits (split c v l r) = So (fits v) × ValuesFit fits l × ValuesFit fits r

-- the form of a tree under k limits: every leaf has one multiplier for each limit on its way
unfoldable pub formed : ℕ → Tree → Bool
formed k (leaf ms) = eqb (length ms) k
formed k (split c v l r) = formed (suc k) l && formed (suc k) r

-- the most splits above a leaf
unfoldable pub depth : Tree → ℕ
depth (leaf ms) = 0
depth (split c v l r) = suc (max (depth l) (depth r))
