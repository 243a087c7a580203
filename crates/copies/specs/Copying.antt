-- Copies of nodes, read from a graph's bytes (01, "The written line"): how many there are of each, and the edge that takes one.
use Prim.Native.Nat.{ℕ, zero, suc, ◌+◌, ◌-◌, ◌*◌, ◌/◌, ◌≤◌, ◌<◌, max}
use Rattle.std.specs.Prelude.{◌≡◌, Bool, List, eqb, ltb, length}
use Rattle.std.proofs.Math.Path.{refl, ap}
use Rattle.std.proofs.Common.{◌∙◌, add-one, lt-ltb, le-ltb}
use Rattle.std.proofs.Math.Bool.{true, false, cond}
use native.Mathlib.Omega.{arith}
use Rattle.std.proofs.Math.Decide.{dec_lt}
use Rattle.std.proofs.Math.Nat.{sub-zero}
use Rattle.logic.specs.Sums.{sum_below, only, max_below}
use Rattle.parts.specs.Numbers.{byte_at, num2}
use Rattle.evidence.specs.Evidence.{edge_in, edges_part, most_edges}
use Rattle.evidence.specs.declared.Layout.{Layout}
use Rattle.edges.specs.EdgeSteps.{edge_count}

-- the count of edge j, if it leads to y
abbrev pub count_to : List ℕ → ℕ → ℕ → ℕ
count_to es y j = only (eqb (edge_in es j).target y) (edge_in es j).count

-- the same of the edge at `at`
abbrev pub taken_at : List ℕ → ℕ → ℕ → ℕ
taken_at es y at = only (eqb (byte_at es at) y) (num2 es (at + 3))

-- what the counts of the first j edges to y come to
abbrev pub sum_to : List ℕ → ℕ → ℕ → ℕ
sum_to es j y = sum_below j (count_to es y)

-- the counts of the edges to y, added up
unfoldable pub total_to : List ℕ → ℕ → ℕ
total_to es y = sum_below (edge_count es) (count_to es y)

-- the greatest total from record x to one of n records
abbrev pub most_from : Layout → List ℕ → ℕ → ℕ → ℕ
most_from f s n x = max_below n (total_to (edges_part f s x))

-- K, of the first n records: the greatest total from one of them to one of them, at least 1
unfoldable pub copies_in : Layout → List ℕ → ℕ → ℕ
copies_in f s n = max 1 (max_below n (most_from f s n))

-- the roles of the edge that takes copy j of y, of the k edges from edge i on: an edge to y takes as many as it counts, behind those taken
unfoldable pub owner_from : List ℕ → ℕ → ℕ → ℕ → ℕ → ℕ
owner_from es y zero i j = 0
owner_from es y (suc k) i j = cond (eqb (edge_in es i).target y)
    (cond (ltb j (edge_in es i).count) (edge_in es i).mask (owner_from es y k (i + 1) (j - (edge_in es i).count)))
    (owner_from es y k (i + 1) j)

-- of all edges; 0 if no edge takes it
unfoldable pub owner_mask : List ℕ → ℕ → ℕ → ℕ
owner_mask es y j = owner_from es y (edge_count es) 0 j

-- ---- laws for the code
-- edge i lies in the bytes
pub edge_room : (es : List ℕ) (k i at : ℕ) → i < k → k ≤ edge_count es → at ≡ 5 * i → at < length es
edge_room es k i at h few e = elim (dec_lt (length es / 5) most_edges) [
  | yes l ↦ (let z : k ≤ length es / 5 = rw (lt-ltb _ _ l) at few in omega arith)
  | no l ↦ (let y : most_edges ≤ length es / 5 = omega arith in let z : k ≤ most_edges = rw (le-ltb _ _ y) at few in omega arith)
]

module _ (es : List ℕ) (y : ℕ) where
  -- from edge i of k: it takes the copy, or c copies are passed, as many as it takes; then none is left
  pub owner_stop : (k i j c m : ℕ) → i < k → c ≡ count_to es y i → m ≡ (edge_in es i).mask → j < c → m ≡ owner_from es y (k - i) i j
  unfolding owner_from
  owner_stop k i j c m h p q l = let z : k - i ≡ suc (k - (i + 1)) = omega arith in rw z (go (eqb (edge_in es i).target y) p)
    where
      go : (b : Bool) → c ≡ only b (edge_in es i).count
          → m ≡ cond b (cond (ltb j (edge_in es i).count) (edge_in es i).mask (owner_from es y (k - (i + 1)) (i + 1) (j - (edge_in es i).count))) (owner_from es y (k - (i + 1)) (i + 1) j)
      go true e = let g : j < (edge_in es i).count = omega arith in rw (lt-ltb _ _ g) q
      go false e = absurd (omega arith)

  pub owner_on : (k i j c : ℕ) → i < k → c ≡ count_to es y i → c ≤ j → owner_from es y (k - (i + 1)) (i + 1) (j - c) ≡ owner_from es y (k - i) i j
  unfolding owner_from
  owner_on k i j c h p l = let z : k - i ≡ suc (k - (i + 1)) = omega arith in rw z (go (eqb (edge_in es i).target y) p)
    where
      go : (b : Bool) → c ≡ only b (edge_in es i).count
          → owner_from es y (k - (i + 1)) (i + 1) (j - c)
          ≡ cond b (cond (ltb j (edge_in es i).count) (edge_in es i).mask (owner_from es y (k - (i + 1)) (i + 1) (j - (edge_in es i).count))) (owner_from es y (k - (i + 1)) (i + 1) j)
      go true e = let g : (edge_in es i).count ≤ j = omega arith in rw (le-ltb _ _ g, e) refl
      go false e = rw (e, sub-zero) refl

  pub owner_end : (k i j : ℕ) → k ≤ i → 0 ≡ owner_from es y (k - i) i j
  unfolding owner_from
  owner_end k i j h = let z : k - i ≡ 0 = omega arith in rw z refl

module _ (es : List ℕ) (y : ℕ) where
  -- an edge's count as the code reads it
  pub count_read : (j at c : ℕ) → at ≡ 5 * j → c ≡ taken_at es y at → c ≡ count_to es y j
  count_read j at c e p = p ∙ ap (taken_at es y) e

  pub owner_start : (k j : ℕ) → k ≡ edge_count es → owner_from es y (k - 0) 0 j ≡ owner_mask es y j
  unfolding owner_mask
  owner_start k j e = rw (sub-zero, e) refl

module _ (f : Layout) (s : List ℕ) (n x : ℕ) where
  -- one record more
  pub copies_more : (es : List ℕ) (m c r : ℕ) → m ≡ max 1 (max_below x (most_from f s n)) → es ≡ edges_part f s x → c ≡ max_below n (total_to es) → r ≡ max m c
      → r ≡ max 1 (max_below (x + 1) (most_from f s n))
  unfolding max_below
  copies_more es m c r p q k e = let z : c ≡ most_from f s n x = k ∙ ap (λ es. max_below n (total_to es)) q in rw (add-one x) (omega arith)

  pub copies_end : (m : ℕ) → x ≤ n → n ≤ x → m ≡ max 1 (max_below x (most_from f s n)) → m ≡ copies_in f s n
  unfolding copies_in
  copies_end m h k p = p ∙ ap (λ i. max 1 (max_below i (most_from f s n))) (omega arith)
