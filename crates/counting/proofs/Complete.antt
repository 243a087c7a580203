-- For any limits and open cells there are sizes that keep the limits, or a tree that closes.
-- The tree splits each open cell at 0, 1, …, B - 1, where B is the lower bounds added up. At a leaf every open cell is then pinned: its size
-- is known, or is at least B. The sizes so pinned keep the limits, or break one, which clashes with the pins of its cells.
use Rattle.std.specs.Prelude.{ℕ, zero, suc, ◌+◌, ◌≤◌, ◌<◌, ◌≡◌, refl, ◌⊎◌, Bool, ◌&&◌, List, [], ◌∷◌, ◌++◌, length}
use Rattle.std.proofs.Math.Logic.{inl, inr, ⊎_map}
use mathlib.Core.List.Memᴰ
use Rattle.std.proofs.Common.{arith}
use Rattle.std.proofs.Math.Decide.{dec_le, dec_lt}
use Rattle.logic.specs.Tests.{So, decide, so_and}
use Rattle.logic.specs.Lists.{◌∈◌, length_snoc}
use Rattle.logic.specs.Sums.{only, only_on, sum_at_lem}
use Rattle.counting.specs.Trees.{lower, upper, Limit, limit, at_most, more_than, Tree, split, live, total, Holds, HoldAll, TreeCloses, formed}
use Rattle.counting.proofs.Small.{lower_of, lowers_of}
use Rattle.counting.proofs.Multipliers.{ClosingTree, Pin, broken_closes}

last : (l : Limit) (ls : List Limit) → l ∈ (ls ++ (l ∷ []))
last l ls = Memᴰ.append_right ls (Memᴰ.head refl)

lower_le : {l : Limit} {ls : List Limit} → l ∈ ls → lower_of l ≤ lowers_of ls
lower_le (Memᴰ.head e) = rw e (omega arith)
lower_le (Memᴰ.tail p) = omega (arith, lower_le p)

module _ (n : ℕ) (open? : ℕ → Bool) where
  abbrev KeptOrBroken : (ℕ → ℕ) → List Limit → Type 0
  KeptOrBroken x ls = HoldAll n open? ls x ⊎ ((l : Limit) × (l ∈ ls) × (Holds n open? x l → ⊥))

  kept_or_broken : (x : ℕ → ℕ) (ls : List Limit) → KeptOrBroken x ls
  kept_or_broken x [] = inl tt
  kept_or_broken x (l ∷ ls) = go (holds l) (kept_or_broken x ls)
    where
      holds : (l : Limit) → Dec (Holds n open? x l)
      holds (limit lower b k) = dec_le b (total n open? x k)
      holds (limit upper b k) = dec_le (total n open? x k) b

      go : Dec (Holds n open? x l) → KeptOrBroken x ls → KeptOrBroken x (l ∷ ls)
      go (no h) r = inr (l, Memᴰ.head refl, h)
      go (yes h) (inl r) = inl (h, r)
      go (yes h) (inr (y, p, u)) = inr (y, Memᴰ.tail p, u)

  module _ (rows : List Limit) where
    abbrev B : ℕ
    B = lowers_of rows

    abbrev Answer : List Limit → Type 0
    Answer ls = ((x : ℕ → ℕ) × HoldAll n open? rows x) ⊎ ClosingTree n open? ls

    abbrev Pinned : List Limit → ℕ → ℕ → Type 0
    Pinned ls v c = Pin lower ls v c × (Pin upper ls v c ⊎ (B ≤ v))

    -- the limits on the way to a node: the rows are among them, and each open cell from j on is pinned at its size
    record Way (ls : List Limit) (j : ℕ) : Type 0 where
      rows_inside : {l : Limit} → l ∈ rows → l ∈ ls
      size : (c : ℕ) → (v : ℕ) × (j ≤ c → c < n → So (live open? c) → Pinned ls v c)

    at_leaf : (ls : List Limit) → Way ls 0 → Answer ls
    at_leaf ls w = elim (kept_or_broken x rows) [ inl h ↦ inl (x, h) | inr (l, p, h) ↦ inr (close l p h) ]
      where
        x : ℕ → ℕ
        x c = (w.size c).0

        close : (l : Limit) → l ∈ rows → (Holds n open? x l → ⊥) → ClosingTree n open? ls
        close (limit upper b k) p h = broken_closes n open? ls upper b k x (w.rows_inside p) h (λ c l o q. ((w.size c).1 (omega arith) l o).0)
        -- a cell of size B or more alone would keep a lower limit
        close (limit lower b k) p h = broken_closes n open? ls lower b k x (w.rows_inside p) h (λ c l o q. elim ((w.size c).1 (omega arith) l o).1 [
          | inl u ↦ u
          | inr u ↦ absurd (omega (
            arith,
            lower_le p,
            sum_at_lem n (λ d. only (live open? d && k d) (x d)) c l,
            only_on (live open? c && k c) (x c) (so_and (live open? c) (k c) o q),
          ))
        ])

    -- ---- on the way down
    way_more : (ls : List Limit) (j : ℕ) (y : Limit) → Way ls j → Way (ls ++ (y ∷ [])) j
    way_more ls j y w = record {
      rows_inside = λ p. Memᴰ.append_left _ (w.rows_inside p);
      size = λ c. let (v, pins) = w.size c in
          (v, λ h l o. let (p, q) = pins h l o in (⊎_map (λ z. z) (Memᴰ.append_left _) p, ⊎_map (Memᴰ.append_left _) (λ z. z) q));
    }

    -- one cell more, of size v
    way_down : (ls : List Limit) (j v : ℕ) → (So (live open? j) → Pinned ls v j) → Way ls (suc j) → Way ls j
    way_down ls j v p w = record {
      rows_inside = w.rows_inside;
      size = λ c. elim (dec_lt j c) [
        | yes d ↦ ((w.size c).0, λ _. (w.size c).1 d)
        | no d ↦ (v, λ h l o. let e : c ≡ j = omega arith in rw e (p (rw e at o)))
      ];
    }

    join : (ls : List Limit) (c v : ℕ) → c < n → So (live open? c)
        → Answer (ls ++ (at_most c v ∷ [])) → Answer (ls ++ (more_than c v ∷ [])) → Answer ls
    unfolding formed
    join ls c v l o (inl s) r = inl s
    join ls c v l o (inr t) (inl s) = inl s
    join ls c v l o (inr (t, f, p)) (inr (u, g, q)) = inr (
      split c v t u,
      so_and _ _ (rw (length_snoc ls (at_most c v)) at f) (rw (length_snoc ls (more_than c v)) at g),
      (l, o, p, q),
    )

    -- the splits of the cell j, from the value v up
    chain : (j : ℕ) → j < n → So (live open? j) → ((ls : List Limit) → Way ls j → Answer ls)
        → (left v : ℕ) → v + left ≡ B → (ls : List Limit) → Pin lower ls v j → Way ls (suc j) → Answer ls
    chain j l o below zero v e ls p w = below ls (way_down ls j v (λ _. (p, inr (omega arith))) w)
    chain j l o below (suc left) v e ls p w = join ls j v l o
        (below low (way_down low j v (λ _. (⊎_map (λ z. z) (Memᴰ.append_left _) p, inl (last _ ls))) (way_more ls (suc j) _ w)))
        (chain j l o below left (suc v) (omega arith) (ls ++ (more_than j v ∷ [])) (inr (last _ ls)) (way_more ls (suc j) _ w))
      where
        low : List Limit
        low = ls ++ (at_most j v ∷ [])

    build : (j : ℕ) → j ≤ n → (ls : List Limit) → Way ls j → Answer ls
    build zero l ls w = at_leaf ls w
    build (suc j) l ls w = elim (decide (live open? j)) [
      | inl o ↦ chain j l o (build j (omega arith)) B 0 (omega arith) ls (inl refl) w
      | inr o ↦ build j (omega arith) ls (way_down ls j 0 (λ u. absurd (o u)) w)
    ]

  pub tree_complete : (ls : List Limit) → ((x : ℕ → ℕ) × HoldAll n open? ls x) ⊎ ((t : Tree) × So (formed (length ls) t) × TreeCloses n open? ls t)
  tree_complete ls = build ls n (omega arith) ls (record { rows_inside = λ p. p; size = λ c. (0, λ h l. absurd (omega arith)) })
