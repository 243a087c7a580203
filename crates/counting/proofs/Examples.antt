-- Worked examples: each rule of a counting step's tree, on both sides.
use Rattle.std.specs.Prelude.{ℕ, zero, suc, ◌+◌, ◌*◌, ◌<◌, ◌≡◌, refl, Bool, true, false, ◌||◌, List, [], ◌∷◌, eqb, leb, pos, negsuc}
use Rattle.std.proofs.Common.{ap, arith, mul-le-mul_left}
use Rattle.logic.specs.Bounded.{all_below}
use Rattle.logic.specs.Sums.{sum_below, only}
use Rattle.logic.specs.Sets.{has}
use Rattle.counting.specs.Trees.{Side, lower, upper, same_side, Limit, limit, share, weight, worth, gap}
use Rattle.counting.specs.Trees.{Tree, leaf, split, LeafCloses, leaf_test, tree_test, formed, depth}
use Rattle.counting.specs.Rows.{Bound, Solves, limits, Closed, closed_test}
use Rattle.counting.proofs.TreeLaws.{gap↔}
use Rattle.counting.proofs.Solutions.{limits_hold, closed_sound}
use Rattle.counting.specs.Examples.{at_least, at_most, abc, abc_open, abc_tree}

-- the test as a step has it, with values up to 1,000
abbrev passes : List Bound → (ℕ → Bool) → Tree → Bool
passes rows open? t = closed_test rows open? (λ v. leb v 1000) t

-- ---- the gap
-- above zero, zero and below: at most 1 and at least 3, with their multipliers
gaps : (gap (limits (at_most 1 ∷ at_least 3 ∷ [])) (1 ∷ 1 ∷ []) ≡ pos 2) × (gap (limits (at_most 1 ∷ at_least 3 ∷ [])) (3 ∷ 1 ∷ []) ≡ pos 0)
    × (gap (limits (at_most 1 ∷ at_least 3 ∷ [])) (1 ∷ 0 ∷ []) ≡ negsuc 0)
gaps = (refl, refl, refl)

-- at most 3 and at least 3, which three fillers meet: a gap of zero
zero_gap : (gap (limits (at_most 3 ∷ at_least 3 ∷ [])) (1 ∷ 1 ∷ []) ≡ pos 0)
    × (passes (at_most 3 ∷ at_least 3 ∷ []) (eqb 3) (leaf (1 ∷ 1 ∷ [])) ≡ false)
    × Solves (at_most 3 ∷ at_least 3 ∷ []) (eqb 3) (λ _. 3)
unfolding tree_test leaf_test all_below has sum_below
zero_gap = (refl, refl, (limits_hold (at_most 3 ∷ at_least 3 ∷ []) (eqb 3) (λ _. 3)).1 (omega arith))

-- ---- the balance
-- at most 1 and at least 3, where cell 2 is open too: three fillers that count in the second row alone meet both
unbalanced : (passes (at_most 1 ∷ at_least 3 ∷ []) (leb 2) (leaf (1 ∷ 1 ∷ [])) ≡ false)
    × Solves (at_most 1 ∷ at_least 3 ∷ []) (leb 2) (λ c. only (eqb c 2) 3)
unfolding tree_test leaf_test all_below has sum_below
unbalanced = (refl, (limits_hold (at_most 1 ∷ at_least 3 ∷ []) (leb 2) (λ c. only (eqb c 2) 3)).1 (omega arith))

-- ---- splits
-- at most 1 and at least 3 again, with the cells 0, 3, 4, 5, … open; each half closes by the rows alone
split_at : ℕ → ℕ → Bool
split_at c v = passes (at_most 1 ∷ at_least 3 ∷ []) (λ c. eqb c 0 || leb 3 c) (split c v (leaf (1 ∷ 1 ∷ 0 ∷ [])) (leaf (1 ∷ 1 ∷ 0 ∷ [])))

-- an open cell, at the greatest value allowed
split_open : split_at 3 1000 ≡ true
unfolding split_at tree_test leaf_test all_below has
split_open = refl

-- one more
split_value : split_at 3 1001 ≡ false
unfolding split_at tree_test leaf_test all_below has
split_value = refl

-- a cell shown empty
split_shut : split_at 2 1000 ≡ false
unfolding split_at tree_test leaf_test all_below has
split_shut = refl

-- cell 0
split_none : split_at 0 1000 ≡ false
unfolding split_at tree_test leaf_test all_below has
split_none = refl

-- a cell past the last
split_past : split_at 4 1000 ≡ false
unfolding split_at tree_test leaf_test all_below has
split_past = refl

-- ---- the form: a leaf under two rows with one multiplier too few, with its two, and with one too many
multipliers : (formed 2 (leaf (1 ∷ [])) ≡ false) × (formed 2 (leaf (1 ∷ 1 ∷ [])) ≡ true) × (formed 2 (leaf (1 ∷ 1 ∷ 1 ∷ [])) ≡ false)
unfolding formed
multipliers = (refl, refl, refl)

-- ---- the depth: nine splits down the left halves, nine down the right ones, and one in each half of another
lefts : ℕ → Tree
lefts zero = leaf []
lefts (suc d) = split 1 0 (lefts d) (leaf [])

rights : ℕ → Tree
rights zero = leaf []
rights (suc d) = split 1 0 (leaf []) (rights d)

depths : (depth (lefts 9) ≡ 9) × (depth (rights 9) ≡ 9) × (depth (split 1 0 (lefts 1) (rights 1)) ≡ 2)
unfolding lefts rights depth
depths = (refl, refl, refl)

-- ---- a leaf closes only what no fraction solves
-- the limits with each bound times d
scaled : ℕ → List Limit → List Limit
scaled d [] = []
scaled d (limit s b k ∷ ls) = limit s (d * b) k ∷ scaled d ls

scaled_weight : (d : ℕ) (s : Side) (c : ℕ) (ls : List Limit) (ms : List ℕ) → weight s (scaled d ls) ms c ≡ weight s ls ms c
unfolding scaled
scaled_weight d s c [] ms = refl
scaled_weight d s c (limit r b k ∷ ls) [] = refl
scaled_weight d s c (limit r b k ∷ ls) (m ∷ ms) = ap (share s (limit r b k) m c +◌) (scaled_weight d s c ls ms)

scaled_worth : (d : ℕ) (s : Side) (ls : List Limit) (ms : List ℕ) → worth s (scaled d ls) ms ≡ d * worth s ls ms
unfolding scaled
scaled_worth d s [] ms = omega arith
scaled_worth d s (limit r b k ∷ ls) [] = omega arith
scaled_worth d s (limit r b k ∷ ls) (m ∷ ms) = omega (arith, point (same_side s r), scaled_worth d s ls ms)
  where
    point : (g : Bool) → only g (m * (d * b)) ≡ d * only g (m * b)
    point true = omega arith
    point false = omega arith

leaf_scaled : (n : ℕ) (open? : ℕ → Bool) (d : ℕ) → 0 < d → (ls : List Limit) (ms : List ℕ)
    → LeafCloses n open? ls ms → LeafCloses n open? (scaled d ls) ms
leaf_scaled n open? d z ls ms h = record {
  balanced = λ c l o. rw (scaled_weight d lower c ls ms, scaled_weight d upper c ls ms) (h.balanced c l o);
  above_zero = (gap↔ (scaled d ls) ms).1
      (omega (arith, scaled_worth d lower ls ms, scaled_worth d upper ls ms, mul-le-mul_left d ((gap↔ ls ms).0 h.above_zero)));
}

-- ---- a step that fractions meet and no fillers do (specs/Examples)
abc_closed : (passes (abc 1) abc_open abc_tree ≡ true) × (formed 6 abc_tree ≡ true)
unfolding abc abc_open abc_tree tree_test leaf_test all_below has formed
abc_closed = (refl, refl)

-- one filler of each kind solves the doubled bounds
pub abc_halves : Solves (abc 2) abc_open (λ _. 1)
unfolding abc abc_open sum_below has
abc_halves = (limits_hold (abc 2) abc_open (λ _. 1)).1 (omega arith)

-- so no leaf alone closes: it would close the doubled bounds too
pub abc_no_leaf : (ms : List ℕ) → Closed (abc 1) abc_open (leaf ms) → ⊥
unfolding abc scaled
abc_no_leaf ms h = closed_sound (abc 2) abc_open (leaf ms) (leaf_scaled 64 abc_open 2 (omega arith) (limits (abc 1)) ms h) (λ _. 1) abc_halves
