-- The sums of the code are the weights of the leaf.
use Prim.Native.Nat.{ℕ, zero, suc, ◌+◌, ◌-◌, ◌*◌, ◌/◌, ◌%◌, ◌≤◌, ◌<◌}
use Rattle.std.specs.Prelude.{◌≡◌, refl, Bool, true, false, not, List, [], ◌∷◌, eqb, leb, ltb, pos, length, get_or}
use Rattle.std.proofs.Math.Path.{sym, ap, ap₂}
use Rattle.std.proofs.Common.{◌∙◌, arith}
use Rattle.std.proofs.Math.Bool.{◌&&◌}
use Rattle.std.proofs.Math.Decide.{dec_lt}
use Rattle.std.proofs.Math.IntN.{sub_ℕ}
use Rattle.std.specs.Int.Signed.{lt_z}
use borrow.Author.Tests.{lt-ltb, le-ltb, lt-leb, le-leb}
use Rattle.logic.specs.Tests.{So, ◌⇒◌, so_not, not_so, same_test}
use Rattle.logic.specs.Bounded.{all_below, any_below, all_intro, all_elim, any_intro, any_elim}
use Rattle.logic.specs.Lists.{tabulate}
use Rattle.logic.specs.Sets.{has}
use Rattle.logic.specs.Sums.{sum_below, only, only_le, only_zero, sum_cong, sum_add, sum_mul, sum_front}
use Rattle.labels.specs.Blocks.{block, has_low, has_high}
use Rattle.counting.specs.Trees as Counting
use Rattle.counting.specs.Trees.{lower, upper, limit, same_side, share, weight, live, leaf_test}
use Rattle.rows.specs.HeldRows.{side_of}
use Rattle.list_leaf.specs.declared.Limit.{Limit}
use Rattle.list_leaf.specs.Leaf.{limit_at, counts, limits_held, marked, leaf_over}
use Rattle.list_leaf.specs.Weights.{packed, part_at, RowParts, cell_sum, eight_of, split_sum, SplitSums, unfair_at, unfair_block}
use Rattle.list_leaf.specs.Totals.{total_of, total_is}

-- ---- sums
sum_bound : (n b : ℕ) (f : ℕ → ℕ) → ((i : ℕ) → i < n → f i ≤ b) → sum_below n f ≤ b * n
unfolding sum_below
sum_bound zero b f h = omega arith
sum_bound (suc n) b f h = let z : b * suc n ≡ b * n + b = omega arith in omega (arith, z, sum_bound n b f (λ i l. h i (omega arith)), h n (omega arith))

-- what is 0 from k on is summed up to k
sum_cut : (k n : ℕ) (f : ℕ → ℕ) → k ≤ n → ((i : ℕ) → k ≤ i → f i ≡ 0) → sum_below n f ≡ sum_below k f
unfolding sum_below
sum_cut k zero f h z = let e : k ≡ 0 = omega arith in rw e refl
sum_cut k (suc n) f h z = elim (dec_lt n k) [
  | yes l ↦ let e : k ≡ suc n = omega arith in rw e refl
  | no l ↦ omega (arith, sum_cut k n f (omega arith) z, z n (omega arith))
]

-- ---- the rows: a cell's sum by its lower and its upper three bits
three : (p q r i : ℕ) → i < 8 → get_or (eight_of p q r) i 0 ≡ only (has i 0) p + only (has i 1) q + only (has i 2) r
unfolding has
three p q r zero h = refl
three p q r (suc zero) h = omega arith
three p q r (suc (suc zero)) h = omega arith
three p q r (suc (suc (suc zero))) h = omega arith
three p q r (suc (suc (suc (suc zero)))) h = omega arith
three p q r (suc (suc (suc (suc (suc zero))))) h = omega arith
three p q r (suc (suc (suc (suc (suc (suc zero)))))) h = omega arith
three p q r (suc (suc (suc (suc (suc (suc (suc zero))))))) h = omega arith
three p q r (suc (suc (suc (suc (suc (suc (suc (suc i)))))))) h = absurd (omega arith)

pub eight_most : (p q r i : ℕ) → i < 8 → p ≤ 16711680 → q ≤ 16711680 → r ≤ 16711680 → get_or (eight_of p q r) i 0 ≤ 50135040
eight_most p q r i h a b c = omega (arith, three p q r i h, only_le (has i 0) p, only_le (has i 1) q, only_le (has i 2) r)

abbrev low_of : List ℕ → List ℕ
low_of ps = eight_of (get_or ps 0 0) (get_or ps 1 0) (get_or ps 2 0)

abbrev high_of : List ℕ → List ℕ
high_of ps = eight_of (get_or ps 3 0) (get_or ps 4 0) (get_or ps 5 0)

six : (ps : List ℕ) (b i : ℕ) → b < 8 → i < 8 → get_or (low_of ps) i 0 + get_or (high_of ps) b 0 ≡ cell_sum 6 (λ j. get_or ps j 0) (8 * b + i)
unfolding cell_sum sum_below
six ps b i h l = rw (
  three (get_or ps 0 0) (get_or ps 1 0) (get_or ps 2 0) i l,
  three (get_or ps 3 0) (get_or ps 4 0) (get_or ps 5 0) b h,
  low 0 (omega arith),
  low 1 (omega arith),
  low 2 (omega arith),
  high 0,
  high 1,
  high 2,
) (omega arith)
  where
    whole : block 3 b i ≡ 8 * b + i
    whole = omega arith

    low : (j : ℕ) → j < 3 → has i j ≡ has (8 * b + i) j
    low j q = has_low j 3 b i q ∙ ap (λ (n : ℕ). has n j) whole

    high : (j : ℕ) → has b j ≡ has (8 * b + i) (3 + j)
    high j = let z : 3 + j - 3 ≡ j = omega arith in sym (ap (has b) z) ∙ has_high 3 b i (3 + j) (omega arith) (omega arith) ∙ ap (λ (n : ℕ). has n (3 + j)) whole

-- ---- both sides of a cell
packed_share : (s : Counting.Side) (b m : ℕ) (t : Bool) (k : ℕ → Bool) (c : ℕ) → k c ≡ t
    → only (k c) (packed s m) ≡ 65536 * share lower (limit s b k) m c + share upper (limit s b k) m c
packed_share lower b m true k c e = rw e (omega arith)
packed_share lower b m false k c e = rw e (omega arith)
packed_share upper b m true k c e = rw e (omega arith)
packed_share upper b m false k c e = rw e (omega arith)

weight_sum : (s : Counting.Side) (n : ℕ) (l : ℕ → Counting.Limit) (ms : List ℕ) (c : ℕ) → length ms ≡ n
    → weight s (tabulate n l) ms c ≡ sum_below n (λ i. share s (l i) (get_or ms i 0) c)
unfolding tabulate sum_below
weight_sum s zero l ms c e = refl
weight_sum s (suc n) l [] c e = absurd (omega arith)
weight_sum s (suc n) l (m ∷ ms) c e = ap (λ (x : ℕ). share s (l 0) m c + x) (weight_sum s n (λ i. l (suc i)) ms c (omega arith))
    ∙ sym (sum_front n (λ i. share s (l i) (get_or (m ∷ ms) i 0) c))

-- the word tells which side weighs more
balance_is : (s a b : ℕ) (m : Bool) → s ≡ 65536 * a + b → b < 65536 → not (ltb (s % 65536) (s / 65536) && m) ≡ (m ⇒ leb a b)
balance_is s a b m e h = let d : s / 65536 ≡ a = omega arith in let r : s % 65536 ≡ b = omega arith in rw (d, r) (elim (dec_lt b a) [
  | yes l ↦ rw (lt-ltb b a l, lt-leb a b l) (on m)
  | no l ↦ let g : a ≤ b = omega arith in rw (le-ltb b a g, le-leb a b g) (off m)
])
  where
    on : (m : Bool) → not m ≡ (m ⇒ false)
    on true = refl
    on false = refl

    off : (m : Bool) → true ≡ (m ⇒ true)
    off true = refl
    off false = refl

-- eight blocks of eight cells are 64
blocks : (p : ℕ → ℕ → Bool) (q : ℕ → Bool) → ((b i : ℕ) → b < 8 → i < 8 → not (p b i) ≡ q (8 * b + i)) → not (any_below 8 (λ b. any_below 8 (p b))) ≡ all_below 64 q
blocks p q h = same_test _ _ (λ u. all_intro 64 q (λ c l. fine u c l)) (λ u. so_not _ (λ v. broken u v))
  where
    fine : So (not (any_below 8 (λ b. any_below 8 (p b)))) → (c : ℕ) → c < 64 → So (q c)
    fine u c l = let z : 8 * (c / 8) + c % 8 ≡ c = omega arith in ap q (sym z) ∙ sym (h (c / 8) (c % 8) (omega arith) (omega arith))
        ∙ so_not (p (c / 8) (c % 8)) (λ w. not_so _ u (any_intro 8 (λ b. any_below 8 (p b)) (c / 8) (omega arith) (any_intro 8 (p (c / 8)) (c % 8) (omega arith) w)))

    broken : So (all_below 64 q) → So (any_below 8 (λ b. any_below 8 (p b))) → ⊥
    broken u v = let x = any_elim 8 (λ b. any_below 8 (p b)) v in let y = any_elim 8 (p x.0) x.2 in
        not_so (p x.0 y.0) (h x.0 y.0 x.1 y.1 ∙ all_elim 64 q u (8 * x.0 + y.0) (omega (arith, x.1, y.1))) y.2

module _ (k : ℕ) (way : List Limit) (ms : List ℕ) where
  abbrev the_limit : ℕ → Counting.Limit
  the_limit i = limit (side_of (limit_at way i).side) (limit_at way i).bound (counts k i (limit_at way i).cell)

  abbrev the_share : Counting.Side → ℕ → ℕ → ℕ
  the_share s c i = share s (the_limit i) (get_or ms i 0) c

  abbrev the_weight : Counting.Side → ℕ → ℕ
  the_weight s c = weight s (limits_held k way (length ms)) ms c

  weight_is : (s : Counting.Side) (c : ℕ) → the_weight s c ≡ sum_below (length ms) (the_share s c)
  weight_is s c = weight_sum s (length ms) the_limit ms c refl

  -- the part of limit i at cell c: as a row, or as a split
  abbrev row_part : ℕ → ℕ → ℕ
  row_part c i = only (ltb i k && has c i) (part_at way ms i)

  abbrev split_part : ℕ → ℕ → ℕ
  split_part c i = only (leb k i && eqb (limit_at way i).cell c) (part_at way ms i)

  point : (c i : ℕ) → row_part c i + split_part c i ≡ 65536 * the_share lower c i + the_share upper c i
  point c i = apart (dec_lt i k) ∙ packed_share (side_of (limit_at way i).side) (limit_at way i).bound (get_or ms i 0) _ (counts k i (limit_at way i).cell) c refl
    where
      apart : Dec (i < k) → row_part c i + split_part c i ≡ only (counts k i (limit_at way i).cell c) (part_at way ms i)
      apart (yes l) = rw (lt-ltb i k l, lt-leb k i l) (omega arith)
      apart (no l) = let g : k ≤ i = omega arith in rw (le-ltb i k g, le-leb k i g) (omega arith)

  both_is : (c : ℕ) → sum_below (length ms) (row_part c) + split_sum way ms k (length ms) c ≡ 65536 * the_weight lower c + the_weight upper c
  unfolding split_sum
  both_is c = sym (sum_add (length ms) (row_part c) (split_part c)) ∙ sum_cong (length ms) _ (λ i. 65536 * the_share lower c i + the_share upper c i) (λ i h. point c i)
      ∙ sum_add (length ms) (λ i. 65536 * the_share lower c i) (the_share upper c)
      ∙ ap₂ ◌+◌ (sum_mul (length ms) 65536 (the_share lower c) ∙ ap (λ (x : ℕ). 65536 * x) (sym (weight_is lower c))) (sym (weight_is upper c))

  upper_small : ((i : ℕ) → i < length ms → get_or ms i 0 < 256) → (c : ℕ) → the_weight upper c ≤ 255 * length ms
  upper_small f c = rw (weight_is upper c) (sum_bound (length ms) 255 (the_share upper c) (λ i h. let g = f i h in
      omega (arith, g, only_le (same_side upper (side_of (limit_at way i).side) && counts k i (limit_at way i).cell c) (get_or ms i 0))))

  module _ (ps : List ℕ) (f : RowParts way ms k ps) (a : k ≤ 6) (o : k ≤ length ms) where
    -- the rows' sum
    rows_is : (c : ℕ) → cell_sum 6 (λ j. get_or ps j 0) c ≡ sum_below (length ms) (row_part c)
    unfolding cell_sum
    rows_is c = sum_cut k 6 _ a (λ i g. rw (f.none i g) (only_zero (has c i)))
        ∙ sum_cong k _ _ (λ i l. rw (f.at i l, lt-ltb i k l) refl) ∙ sym (sum_cut k (length ms) (row_part c) o (λ i g. rw (le-ltb i k g) refl))

    module _ (sums : List ℕ) (g : SplitSums way ms k (length ms) sums) (z : get_or sums 0 0 ≡ 0) (marks : List Bool) (t : (i : ℕ) → i < length ms → get_or ms i 0 < 256) (n : length ms ≤ 14) where
      abbrev sum_at : ℕ → ℕ → ℕ
      sum_at b i = get_or sums (8 * b + i) 0 + get_or (low_of ps) i 0 + get_or (high_of ps) b 0

      abbrev fair_at : ℕ → Bool
      fair_at c = live (marked marks) c ⇒ leb (the_weight lower c) (the_weight upper c)

      cell_fair : (b i : ℕ) → b < 8 → i < 8 → not (ltb (sum_at b i % 65536) (sum_at b i / 65536) && marked marks (8 * b + i)) ≡ fair_at (8 * b + i)
      cell_fair b i h l = go (dec_lt 0 (8 * b + i))
        where
          go : Dec (0 < 8 * b + i) → not (ltb (sum_at b i % 65536) (sum_at b i / 65536) && marked marks (8 * b + i)) ≡ fair_at (8 * b + i)
          go (yes q) = let u = upper_small t (8 * b + i) in let v = six ps b i h l ∙ rows_is (8 * b + i) in let w = both_is (8 * b + i) in
              rw (lt-ltb 0 (8 * b + i) q) (balance_is (sum_at b i) (the_weight lower (8 * b + i)) (the_weight upper (8 * b + i)) (marked marks (8 * b + i))
              (rw (g.at (8 * b + i) q (omega arith)) (omega (arith, v, w))) (omega (arith, u)))
          go (no q) = let x : b ≡ 0 = omega arith in let y : i ≡ 0 = omega arith in rw (x, y, z) refl

      fair_is : not (any_below 8 (unfair_block ps sums marks)) ≡ all_below 64 fair_at
      fair_is = blocks (λ b i. unfair_at (low_of ps) (get_or (high_of ps) b 0) sums marks (8 * b) i) fair_at cell_fair

      pub leaf_is : (low up : ℕ) → low ≡ total_of lower way ms (length ms) → up ≡ total_of upper way ms (length ms)
          → (not (any_below 8 (unfair_block ps sums marks)) && lt_z (pos 0) (sub_ℕ low up)) ≡ leaf_over k marks way ms
      unfolding leaf_test
      leaf_is low up p q = ap₂ ◌&&◌ fair_is (ap₂ (λ (x y : ℕ). lt_z (pos 0) (sub_ℕ x y)) (p ∙ total_is k way ms lower) (q ∙ total_is k way ms upper))
