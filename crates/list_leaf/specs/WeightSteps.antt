-- The loops that add the weights up: what they hold after one limit more.
use Rattle.std.specs.Prelude.{ℕ, zero, suc, ◌+◌, ◌*◌, ◌≤◌, ◌<◌, ◌≡◌, ◌⊎◌, Bool, cond, not, ◌||◌, List, eqb, ltb, length, get_or, set, replicate}
use Rattle.std.proofs.Math.Path.{refl, sym}
use Rattle.std.proofs.Common.{◌∙◌, ap, ap₂, inl, inr, arith, add-one, length-set, get_or-set_same, get_or-set_other}
use Rattle.std.proofs.Math.Decide.{dec_lt}
use Rattle.std.proofs.Math.ListN.{get_or-eq_default}
use borrow.Author.Tests.{le-leb, lt-leb, eq-eqb, lt-ltb, le-ltb}
use Rattle.logic.specs.Tests.{So, decide, so_eqb}
use Rattle.logic.specs.Bounded.{any_below}
use Rattle.logic.specs.Sums.{sum_below, only, only_on, only_off, sum_zero}
use Rattle.list_leaf.specs.declared.Limit.{Limit}
use Rattle.list_leaf.specs.Leaf.{limit_at}
use Rattle.list_leaf.specs.Weights.{part_at, RowParts, eight_of, split_sum, SplitSums, unfair_at, unfair_block}

zeros : (n i : ℕ) → ◌≡◌ {A = ℕ} (get_or (replicate n 0) i 0) 0
zeros zero i = refl
zeros (suc n) zero = refl
zeros (suc n) (suc i) = zeros n i

module _ (way : List Limit) (ms : List ℕ) where
  -- ---- the rows
  pub parts_none : RowParts way ms 0 (replicate 6 0)
  parts_none = record { size = refl; at = λ i h. absurd (omega arith); none = λ i h. zeros 6 i; most = λ i. rw (zeros 6 i) (omega arith) }

  pub parts_more : (i : ℕ) (ps : List ℕ) (v : ℕ) → i < 6 → v ≡ part_at way ms i → v ≤ 16711680 → RowParts way ms i ps → RowParts way ms (i + 1) (set ps i v)
  parts_more i ps v h e b f = record {
    size = simp length-set f.size;
    at = λ j l. at j l (dec_lt j i);
    none = λ j l. other j (λ q. omega arith) ∙ f.none j (omega arith);
    most = λ j. most j (decide (eqb j i));
  }
    where
      same : get_or (set ps i v) i 0 ≡ v
      same = get_or-set_same ps i v 0 (omega (arith, f.size))

      other : (j : ℕ) → (j ≡ i → ⊥) → get_or (set ps i v) j 0 ≡ get_or ps j 0
      other j q = get_or-set_other ps i j v 0 q

      at : (j : ℕ) → j < i + 1 → Dec (j < i) → get_or (set ps i v) j 0 ≡ part_at way ms j
      at j l (yes q) = other j (λ z. omega arith) ∙ f.at j q
      at j l (no q) = let z : j ≡ i = omega arith in rw z (same ∙ e)

      most : (j : ℕ) → So (eqb j i) ⊎ (So (eqb j i) → ⊥) → get_or (set ps i v) j 0 ≤ 16711680
      most j (inl q) = let z : j ≡ i = so_eqb j i q in rw (z, same) b
      most j (inr q) = rw (other j (λ z. q (eq-eqb j i z))) (f.most j)

  -- six parts, of which those from k on are 0
  pub parts_made : (k : ℕ) (ps : List ℕ) → length ps ≡ 6 → ((i : ℕ) → i < 6 → (get_or ps i 0 ≡ cond (ltb i k) (part_at way ms i) 0) × (get_or ps i 0 ≤ 16711680))
      → k ≤ 6 → RowParts way ms k ps
  parts_made k ps s h few = record {
    size = s;
    at = λ i l. (h i (omega arith)).0 ∙ rw (lt-ltb i k l) refl;
    none = λ i l. none i l (dec_lt i 6);
    most = λ i. most i (dec_lt i 6);
  }
    where
      past : (i : ℕ) → 6 ≤ i → get_or ps i 0 ≡ 0
      past i l = let z : length ps ≤ i = omega arith in get_or-eq_default ps 0 z

      none : (i : ℕ) → k ≤ i → Dec (i < 6) → get_or ps i 0 ≡ 0
      none i l (yes q) = (h i q).0 ∙ rw (le-ltb i k l) refl
      none i l (no q) = past i (omega arith)

      most : (i : ℕ) → Dec (i < 6) → get_or ps i 0 ≤ 16711680
      most i (yes q) = (h i q).1
      most i (no q) = let z : 6 ≤ i = omega arith in rw (past i z) (omega arith)

  -- ---- the splits
  module _ (k : ℕ) where
    split_none : (c : ℕ) → 0 ≡ split_sum way ms k k c
    unfolding split_sum
    split_none c = sym (sum_zero k _ (λ i l. rw (lt-leb k i l) refl))

    pub sums_none : SplitSums way ms k k (replicate 64 0)
    sums_none = record { size = refl; most = λ c l. rw (zeros 64 c) (omega arith); at = λ c p l. zeros 64 c ∙ split_none c }

    split_more : (i c : ℕ) → k ≤ i → split_sum way ms k (i + 1) c ≡ split_sum way ms k i c + only (eqb (limit_at way i).cell c) (part_at way ms i)
    unfolding split_sum sum_below
    split_more i c h = rw (add-one i, le-leb k i h) refl

    module _ (i r v : ℕ) (sums : List ℕ) where
      -- the part of limit i added at r
      abbrev added : List ℕ
      added = set sums r (get_or sums r 0 + v)

      pub sums_more : r < 64 → k ≤ i → ((c : ℕ) → 0 < c → c < 64 → eqb r c ≡ eqb (limit_at way i).cell c) → v ≡ part_at way ms i → v ≤ 16711680
          → SplitSums way ms k i sums → SplitSums way ms k (i + 1) added
      sums_more h o e p b f = record {
        size = simp length-set f.size;
        most = λ c l. most c l (decide (eqb r c));
        at = λ c q l. at c q l (decide (eqb r c));
      }
        where
          same : (c : ℕ) → So (eqb r c) → get_or added c 0 ≡ get_or sums c 0 + v
          same c q = let z : r ≡ c = so_eqb r c q in rw z (get_or-set_same sums c _ 0 (omega (arith, f.size)))

          other : (c : ℕ) → (So (eqb r c) → ⊥) → get_or added c 0 ≡ get_or sums c 0
          other c q = get_or-set_other sums r c _ 0 (λ z. q (eq-eqb r c (sym z)))

          most : (c : ℕ) → c < 64 → So (eqb r c) ⊎ (So (eqb r c) → ⊥) → get_or added c 0 ≤ 16711680 * (i + 1)
          most c l (inl q) = rw (same c q) (omega (arith, f.most c l))
          most c l (inr q) = rw (other c q) (omega (arith, f.most c l))

          at : (c : ℕ) → 0 < c → c < 64 → So (eqb r c) ⊎ (So (eqb r c) → ⊥) → get_or added c 0 ≡ split_sum way ms k (i + 1) c
          at c g l (inl q) = same c q ∙ sym (split_more i c o ∙ ap₂ ◌+◌ (sym (f.at c g l)) (only_on _ _ (sym (e c g l) ∙ q) ∙ sym p))
          at c g l (inr q) = other c q ∙ sym (split_more i c o
              ∙ rw (only_off (eqb (limit_at way i).cell c) (part_at way ms i) (λ u. q (e c g l ∙ u)), f.at c g l) (omega arith))

    -- cell 0 cleared in the end
    pub sums_cleared : (n : ℕ) (sums : List ℕ) → SplitSums way ms k n sums → SplitSums way ms k n (set sums 0 0) × (get_or (set sums 0 0) 0 0 ≡ 0)
    sums_cleared n sums f = (
      record {
        size = simp length-set f.size;
        most = λ c l. most c l (dec_lt 0 c);
        at = λ c q l. get_or-set_other sums 0 c 0 0 (λ z. omega arith) ∙ f.at c q l;
      },
      zero_there,
    )
      where
        zero_there : get_or (set sums 0 0) 0 0 ≡ 0
        zero_there = get_or-set_same sums 0 0 0 (omega (arith, f.size))

        most : (c : ℕ) → c < 64 → Dec (0 < c) → get_or (set sums 0 0) c 0 ≤ 16711680 * n
        most c l (yes q) = rw (get_or-set_other sums 0 c 0 0 (λ z. omega arith)) (f.most c l)
        most c l (no q) = let z : c ≡ 0 = omega arith in rw (z, zero_there) (omega arith)

-- ---- the balance
pub any_next : (p : ℕ → Bool) (i : ℕ) (a b : Bool) → a ≡ any_below i p → b ≡ p i → (a || b) ≡ any_below (i + 1) p
unfolding any_below
any_next p i a b e q = rw (add-one i) (ap₂ ◌||◌ e q)

pub blocks_done : (ps sums : List ℕ) (marks : List Bool) (low high : List ℕ) (b : ℕ) (off : Bool)
    → low ≡ eight_of (get_or ps 0 0) (get_or ps 1 0) (get_or ps 2 0) → high ≡ eight_of (get_or ps 3 0) (get_or ps 4 0) (get_or ps 5 0) → b ≡ 8
    → off ≡ any_below b (λ j. any_below 8 (unfair_at low (get_or high j 0) sums marks (8 * j))) → not off ≡ not (any_below 8 (unfair_block ps sums marks))
blocks_done ps sums marks low high b off l h z e =
    let w : any_below b (λ j. any_below 8 (unfair_at low (get_or high j 0) sums marks (8 * j))) ≡ any_below 8 (unfair_block ps sums marks) = rw (l, h, z) refl in ap not (e ∙ w)
