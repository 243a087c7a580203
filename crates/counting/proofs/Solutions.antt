-- The theorems on rows: solutions are fillers (00, demand 2), a tree closes exactly if there is none, and small ones suffice.
use Rattle.std.specs.Prelude.{ℕ, zero, suc, ◌+◌, ◌^◌, ◌≤◌, ◌<◌, ◌≡◌, refl, ◌↔◌, ◌⊎◌, Bool, true, false, cond, ◌&&◌, List, [], ◌∷◌, eqb, ltb, length}
use Rattle.std.proofs.Common.{sym, ◌∙◌, ap, ap₂, inl, inr, arith}
use Rattle.std.proofs.Math.Decide.{dec_lt}
use Rattle.logic.specs.Tests.{So, decide, so_and, and_l, and_r, so_false, so_eqb, so_ltb, ltb_so}
use Rattle.logic.specs.Sums.{sum_below, only, count_below, only_off, only_le, only_zero, sum_cong, sum_le, sum_zero, sum_append, count_eq, count_classes}
use Rattle.logic.specs.Sets.{has, set_of}
use Rattle.logic.specs.SetLaws.{no_member, set_of_lt, has_set_of, set_of_has}
use Rattle.counting.specs.Trees.{Side, lower, upper, limit, Tree, live, total, HoldAll, formed}
use Rattle.counting.specs.Rows.{Bound, MeetAll, Solves, Fillers, limits_from, limits, Closed, lowers}
use Rattle.counting.proofs.TreeLaws.{live↔, tree_sound}
use Rattle.counting.proofs.Small.{lower_of, lowers_of, small}
use Rattle.counting.proofs.Complete.{tree_complete}

-- ---- the rows as limits
length_from : (i : ℕ) (rows : List Bound) → length (limits_from i rows) ≡ length rows
length_from i [] = refl
length_from i (r ∷ rows) = ap suc (length_from (suc i) rows)

pub length_limits : (rows : List Bound) → length (limits rows) ≡ length rows
length_limits rows = length_from 0 rows

-- for rows that begin at row j, with total t i at row j + i
hold_from : (n : ℕ) (open? : ℕ → Bool) (x : ℕ → ℕ) (rows : List Bound) (j : ℕ) (t : ℕ → ℕ)
    → ((i m : ℕ) → m ≡ j + i → t i ≡ total n open? x (λ c. has c m)) → MeetAll rows t ↔ HoldAll n open? (limits_from j rows) x
hold_from n open? x [] j t e = (λ h. tt, λ h i l. absurd (omega arith))
hold_from n open? x (r ∷ rows) j t e = go (hold_from n open? x rows (suc j) (λ i. t (suc i)) (λ i m q. e (suc i) m (omega arith)))
  where
    here : t 0 ≡ total n open? x (λ c. has c j)
    here = e 0 j (omega arith)

    go : MeetAll rows (λ i. t (suc i)) ↔ HoldAll n open? (limits_from (suc j) rows) x
        → MeetAll (r ∷ rows) t ↔ HoldAll n open? (limits_from j (r ∷ rows)) x
    go (there, back) = (λ h. (rw (← here) (h 0 (omega arith)), there (λ i l. h (suc i) (omega arith))), meet)
      where
        meet : HoldAll n open? (limits_from j (r ∷ rows)) x → MeetAll (r ∷ rows) t
        meet h zero l = rw here h.0
        meet h (suc i) l = back h.1 i (omega arith)

pub limits_hold : (rows : List Bound) (open? : ℕ → Bool) (x : ℕ → ℕ) → Solves rows open? x ↔ HoldAll (2 ^ length rows) open? (limits rows) x
limits_hold rows open? x = hold_from (2 ^ length rows) open? x rows 0 _ (λ i m e. let q : i ≡ m = omega arith in rw q)

lowers_from : (i : ℕ) (rows : List Bound) → lowers_of (limits_from i rows) ≡ lowers rows
unfolding lowers
lowers_from i [] = refl
lowers_from i (r ∷ rows) = rw (lowers_from (suc i) rows) (first r.side r.value)
  where
    first : (s : Side) (b : ℕ) → lower_of (limit s b (λ c. has c i)) + lowers rows ≡ lowers (record { side = s; value = b } ∷ rows)
    first lower b = refl
    first upper b = refl

-- ---- from sizes to fillers
-- the cell of filler y, if the cells 0, 1, … have s 0, s 1, … fillers in this order
unfoldable cell_at : (ℕ → ℕ) → ℕ → ℕ → ℕ
cell_at s zero y = 0
cell_at s (suc c) y = cond (ltb y (sum_below c s)) (cell_at s c y) c

cell_at_in : (s : ℕ → ℕ) (n y : ℕ) → y < sum_below n s → (cell_at s n y < n) × (0 < s (cell_at s n y))
unfolding cell_at sum_below
cell_at_in s zero y h = absurd (omega arith)
cell_at_in s (suc c) y h = elim (dec_lt y (sum_below c s)) [
  | yes d ↦ rw (ltb_so y (sum_below c s) d) (let w = cell_at_in s c y d in (omega arith, w.1))
  | no d ↦ rw (so_false (ltb y (sum_below c s)) (λ u. d (so_ltb y (sum_below c s) u))) (omega arith, omega arith)
]

-- a test of cells passes for as many fillers as the cells that pass it have
count_cell_at : (s : ℕ → ℕ) (p : ℕ → Bool) (n : ℕ) → count_below (sum_below n s) (λ y. p (cell_at s n y)) ≡ sum_below n (λ c. only (p c) (s c))
unfolding cell_at sum_below
count_cell_at s p zero = refl
count_cell_at s p (suc n) = sum_append (sum_below n s) (s n) (λ y. only (p (cell_at s (suc n) y)) 1)
    ∙ ap₂ ◌+◌ (sum_cong (sum_below n s) _ (λ y. only (p (cell_at s n y)) 1) old ∙ count_cell_at s p n)
    (sum_cong (s n) _ (λ y. only (p n) 1) new ∙ const (s n) (p n))
  where
    old : (y : ℕ) → y < sum_below n s → only (p (cell_at s (suc n) y)) 1 ≡ only (p (cell_at s n y)) 1
    old y h = rw (ltb_so y (sum_below n s) h)

    new : (y : ℕ) → y < s n → only (p (cell_at s (suc n) (sum_below n s + y))) 1 ≡ only (p n) 1
    new y h = rw (so_false (ltb (sum_below n s + y) (sum_below n s)) (λ u. omega (arith, so_ltb)))

    const : (m : ℕ) (b : Bool) → sum_below m (λ y. only b 1) ≡ only b m
    const zero true = refl
    const (suc m) true = omega (arith, const m true)
    const m false = sum_zero m _ (λ i _. refl)

has_pos : (c i : ℕ) → So (has c i) → 0 < c
has_pos zero i h = absurd (no_member i h)
has_pos (suc c) i h = omega arith

module _ (rows : List Bound) (open? : ℕ → Bool) where
  abbrev cells : ℕ
  cells = 2 ^ length rows

  -- as many fillers as the open cells have in all
  solution_fillers : (x : ℕ → ℕ) → Solves rows open? x → (F : Fillers rows open?) × (F.count ≤ sum_below cells x)
  solution_fillers x h = (
    record {
      count = sum_below cells s;
      counts = λ y i. has (cell_at s cells y) i;
      outside = λ y l z. let w = cell_at_in s cells y l in rw (set_of_has (length rows) (cell_at s cells y) w.0)
          ((live↔ cells open? (cell_at s cells y)).0 (only_pos (live open? (cell_at s cells y)) _ w.1)).1;
      meets = λ i l. rw (count_cell_at s (λ c. has c i) cells, sum_cong cells _ _ (λ c _. swap (live open? c) (has c i) (x c))) (h i l);
    },
    sum_le cells s x (λ c _. only_le (live open? c) (x c)),
  )
    where
      s : ℕ → ℕ
      s c = only (live open? c) (x c)

      only_pos : (b : Bool) (a : ℕ) → 0 < only b a → So b
      only_pos true a h = refl
      only_pos false a h = absurd (omega arith)

      swap : (o q : Bool) (a : ℕ) → only q (only o a) ≡ only (o && q) a
      swap true q a = refl
      swap false q a = only_zero q

  -- ---- from fillers to sizes
  module _ (F : Fillers rows open?) where
    abbrev cell_of : ℕ → ℕ
    cell_of y = set_of (length rows) (F.counts y)

    -- how many fillers the cell c has
    abbrev sizes : ℕ → ℕ
    sizes c = count_below F.count (λ y. eqb (cell_of y) c)

    total_sizes : (i : ℕ) → i < length rows → total cells open? sizes (λ c. has c i) ≡ count_below F.count (λ y. F.counts y i)
    total_sizes i l = sum_cong cells _ (λ c. count_below F.count (λ y. eqb (cell_of y) c && F.counts y i)) (λ c _. part c)
        ∙ count_classes F.count cells cell_of (λ y. F.counts y i) (λ y _. set_of_lt (length rows) (F.counts y))
      where
        own : (y : ℕ) → has (cell_of y) i ≡ F.counts y i
        own y = has_set_of (length rows) (F.counts y) i l

        -- a filler that counts in row i is in an open cell with bit i
        open_cell_lem : (y : ℕ) → y < F.count → So (F.counts y i) → So (live open? (cell_of y) && has (cell_of y) i)
        open_cell_lem y h e = let z = has_pos (cell_of y) i (own y ∙ e) in
            so_and _ _ ((live↔ cells open? (cell_of y)).1 (z, F.outside y h z)) (own y ∙ e)

        part : (c : ℕ) → only (live open? c && has c i) (sizes c) ≡ count_below F.count (λ y. eqb (cell_of y) c && F.counts y i)
        part c = elim (decide (live open? c && has c i)) [
          | inl u ↦ rw u (count_eq F.count (λ y. eqb (cell_of y) c) _
              (λ y _ e. so_and (eqb (cell_of y) c) _ e (sym (own y) ∙ ap (λ c. has c i) (so_eqb (cell_of y) c e) ∙ and_r (live open? c) _ u))
              (λ y _ e. and_l (eqb (cell_of y) c) _ e))
          | inr u ↦ rw (so_false _ u) (sym (sum_zero F.count _ (λ y h. only_off (eqb (cell_of y) c && F.counts y i) 1 (λ e.
              u (rw (so_eqb (cell_of y) c (and_l (eqb (cell_of y) c) _ e)) at (open_cell_lem y h (and_r (eqb (cell_of y) c) _ e)))))))
        ]

  -- 00, demand 2, its last sentence
  pub fillers : ((x : ℕ → ℕ) × Solves rows open? x) ↔ Fillers rows open?
  fillers = (λ (x, h). (solution_fillers x h).0, λ F. (sizes F, λ i l. rw (total_sizes F i l) (F.meets i l)))

  -- ---- a tree closes exactly if there is no solution
  pub closed_sound : (t : Tree) → Closed rows open? t → (x : ℕ → ℕ) → Solves rows open? x → ⊥
  closed_sound t h x s = tree_sound cells open? t (limits rows) h x ((limits_hold rows open? x).0 s)

  pub closed_no_fillers : (t : Tree) → Closed rows open? t → Fillers rows open? → ⊥
  closed_no_fillers t h F = let (x, s) = fillers.1 F in closed_sound t h x s

  pub solved_or_closed : ((x : ℕ → ℕ) × Solves rows open? x) ⊎ ((t : Tree) × So (formed (length rows) t) × Closed rows open? t)
  solved_or_closed = elim (tree_complete cells open? (limits rows)) [
    | inl (x, h) ↦ inl (x, (limits_hold rows open? x).1 h)
    | inr (t, f, h) ↦ inr (t, rw (length_limits rows) at f, h)
  ]

  pub closed↔ : (((x : ℕ → ℕ) × Solves rows open? x) → ⊥) ↔ ((t : Tree) × So (formed (length rows) t) × Closed rows open? t)
  closed↔ = (λ h. elim solved_or_closed [ inl s ↦ absurd (h s) | inr t ↦ t ], λ (t, f, h) (x, s). closed_sound t h x s)

  -- ---- small solutions, and few fillers
  pub small_solution : (x : ℕ → ℕ) → Solves rows open? x
      → (y : ℕ → ℕ) × ((c : ℕ) → y c ≤ x c) × Solves rows open? y × (sum_below cells y ≤ lowers rows)
  small_solution x h = let (y, le, holds, few) = small cells open? (limits rows) x ((limits_hold rows open? x).0 h) in
      (y, le, (limits_hold rows open? y).1 holds, omega (arith, lowers_from 0 rows))

  pub small_fillers : Fillers rows open? → (F : Fillers rows open?) × (F.count ≤ lowers rows)
  small_fillers F = let (x, h) = fillers.1 F in let (y, le, s, few) = small_solution x h in let (G, most) = solution_fillers y s in (G, omega arith)
