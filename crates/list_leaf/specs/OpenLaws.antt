-- The open cells of a step: by their bytes, and as marks in a table of 64.
use Rattle.std.specs.Prelude.{ℕ, zero, suc, ◌+◌, ◌-◌, ◌^◌, ◌≤◌, ◌<◌, ◌≡◌, refl, Bool, true, false, ◌&&◌, List, [], ◌∷◌, eqb, leb, ltb, pos, length, get_or, set, replicate}
use Rattle.std.proofs.Common.{sym, ◌∙◌, ap, arith, pow_mono, get_or-set_other, lt-ltb, le-ltb, le-leb}
use Rattle.std.proofs.Math.Decide.{dec_lt}
use Rattle.std.specs.Int.Signed.{lt_z}
use Rattle.std.proofs.Math.ListN.{get_or-eq_default}
use Rattle.std.proofs.lemmas.Bool.{lt-leb}
use Rattle.logic.specs.Tests.{So, ◌⇒◌, and_l, and_r, so_ltb, same_test, imp_in, imp_out}
use Rattle.logic.specs.Bounded.{all_below, all_intro, all_elim, all_cong}
use Rattle.counting.specs.Trees as Counting
use Rattle.counting.specs.Trees.{lower, upper, live, weight, gap, leaf_test}
use Rattle.parts.specs.Filling.{FilledBy, filled_more}
use Rattle.list_leaf.specs.declared.Limit.{Limit}
use Rattle.list_leaf.specs.Leaf.{limits_held, open_byte, open_cell, leaf_under, marked, leaf_over}

-- ---- a byte
same_at : (xs : List ℕ) (i d e : ℕ) → i < length xs → get_or xs i d ≡ get_or xs i e
same_at [] i d e h = absurd (omega arith)
same_at (x ∷ xs) zero d e h = refl
same_at (x ∷ xs) (suc i) d e h = same_at xs i d e (omega arith)

module _ (cells : List ℕ) where
  pub open_zero : (c : ℕ) → c ≡ 0 → false ≡ live (open_byte cells) c
  open_zero c e = rw e refl

  pub open_past : (c : ℕ) → length cells < c → true ≡ live (open_byte cells) c
  open_past c h = let z : 0 < c = omega arith in let g : length cells ≤ c - 1 = omega arith in rw (lt-ltb 0 c z, get_or-eq_default cells 255 g) refl

  pub open_at : (c : ℕ) → (c ≡ 0 → ⊥) → c ≤ length cells → eqb (get_or cells (c - 1) 0) 255 ≡ live (open_byte cells) c
  open_at c e h = let z : 0 < c = omega arith in rw (lt-ltb 0 c z, same_at cells (c - 1) 0 255 (omega arith)) refl

-- ---- the table
-- the marks of the open cells below n
pub record MarkedTo (cells : List ℕ) (n : ℕ) (marks : List Bool) : Type 0 where
  pub size : length marks ≡ 64
  pub at : (c : ℕ) → c < n → marked marks c ≡ live (open_byte cells) c
  pub none : (c : ℕ) → n ≤ c → marked marks c ≡ false

unmarked : (n c : ℕ) → marked (replicate n false) c ≡ false
unmarked zero c = refl
unmarked (suc n) zero = refl
unmarked (suc n) (suc c) = unmarked n c

module _ (cells : List ℕ) where
  pub marks_none : MarkedTo cells 0 (replicate 64 false)
  marks_none = record { size = refl; at = λ c h. absurd (omega arith); none = λ c h. unmarked 64 c }

  pub marks_more : (i : ℕ) (marks : List Bool) (b : Bool) → i < 64 → b ≡ live (open_byte cells) i → MarkedTo cells i marks → MarkedTo cells (i + 1) (set marks i b)
  marks_more i marks b h e f = record {
    size = next.size;
    at = next.at;
    none = λ c l. get_or-set_other marks i c b false (λ z. omega arith) ∙ f.none c (omega arith);
  }
    where
      next : FilledBy false 64 (live (open_byte cells)) (i + 1) (set marks i b)
      next = filled_more {out = marks} b h e (record { size = f.size; at = f.at })

  -- those of k rows
  pub marks_many : (k c : ℕ) → 6 < k → marked (replicate 64 false) c ≡ open_cell k cells c
  marks_many k c h = rw (lt-leb k 6 h) (unmarked 64 c)

  pub marks_all : (k n : ℕ) (marks : List Bool) → k ≤ 6 → n ≡ 2 ^ k → MarkedTo cells n marks → (c : ℕ) → marked marks c ≡ open_cell k cells c
  marks_all k n marks h e f c = rw (le-leb k 6 h, ← e) (elim (dec_lt c n) [
    | yes l ↦ rw (lt-ltb c n l) (f.at c l)
    | no l ↦ let g : n ≤ c = omega arith in rw (le-ltb c n g) (f.none c g)
  ])

-- marks of cells of k rows only, but cell 0
pub record Among (k : ℕ) (marks : List Bool) : Type 0 where
  pub above : (c : ℕ) → So (marked marks c) → 0 < c
  pub below : (c : ℕ) → So (marked marks c) → c < 2 ^ k

module _ (k : ℕ) (cells : List ℕ) (marks : List Bool) (s : length marks ≡ 64) (h : (c : ℕ) → c < 64 → marked marks c ≡ open_cell k cells c) where
  marked_open : (c : ℕ) → So (marked marks c) → So (open_cell k cells c)
  marked_open c m = go (dec_lt c 64)
    where
      go : Dec (c < 64) → So (open_cell k cells c)
      go (yes l) = sym (h c l) ∙ m
      go (no l) = absurd (let z : length marks ≤ c = omega (arith, s) in let q : false ≡ true = sym (get_or-eq_default marks false z) ∙ m in let w : ◌≡◌ {A = ℕ} 0 1 = cc in omega arith)

  -- those that open_cells makes
  pub among_made : Among k marks
  among_made = record {
    above = λ c m. so_ltb 0 c (and_l (ltb 0 c) _ (and_r (ltb c (2 ^ k)) _ (and_r (leb k 6) _ (marked_open c m))));
    below = λ c m. so_ltb c (2 ^ k) (and_l (ltb c (2 ^ k)) _ (and_r (leb k 6) _ (marked_open c m)));
  }

  pub marks_live : k ≤ 6 → (c : ℕ) → c < 2 ^ k → live (marked marks) c ≡ live (open_byte cells) c
  marks_live g c l = let w : 2 ^ k ≤ 2 ^ 6 = pow_mono g in rw (h c (omega arith), le-leb k 6 g, lt-ltb c (2 ^ k) l) (twice (ltb 0 c) (open_byte cells c))
    where
      twice : (a b : Bool) → (a && (a && b)) ≡ (a && b)
      twice true b = refl
      twice false b = refl

-- what is tested below m only
all_few : (m n : ℕ) (p q : ℕ → Bool) → m ≤ n → ((c : ℕ) → So (p c) → c < m) → all_below n (λ c. p c ⇒ q c) ≡ all_below m (λ c. p c ⇒ q c)
all_few m n p q h f = same_test _ _
    (λ u. all_intro m (λ c. p c ⇒ q c) (λ c l. all_elim n (λ c. p c ⇒ q c) u c (omega arith)))
    (λ u. all_intro n (λ c. p c ⇒ q c) (λ c l. imp_in (p c) (q c) (λ t. imp_out (p c) (q c) (all_elim m (λ c. p c ⇒ q c) u c (f c t)) t)))

-- the leaf over such a table is the leaf over the cells of k rows
pub leaf_few : (k : ℕ) (marks : List Bool) (ls : List Counting.Limit) (ms : List ℕ) → k ≤ 6 → Among k marks
    → leaf_test 64 (marked marks) ls ms ≡ leaf_test (2 ^ k) (marked marks) ls ms
unfolding leaf_test
leaf_few k marks ls ms h a = let w : 2 ^ k ≤ 2 ^ 6 = pow_mono h in
    ap (λ b. b && lt_z (pos 0) (gap ls ms)) (all_few (2 ^ k) 64 (live (marked marks)) (λ c. leb (weight lower ls ms c) (weight upper ls ms c)) (omega arith)
    (λ c m. a.below c (and_r (ltb 0 c) _ m)))

-- and over the table that open_cells makes it is the leaf under the bytes of the cells
pub leaf_made : (k : ℕ) (cells : List ℕ) (marks : List Bool) (way : List Limit) (ms : List ℕ) → k ≤ 6 → length marks ≡ 64
    → ((c : ℕ) → c < 64 → marked marks c ≡ open_cell k cells c) → leaf_over k marks way ms ≡ leaf_under k cells way ms
unfolding leaf_test
leaf_made k cells marks way ms g s h = let ls = limits_held k way (length ms) in
    leaf_few k marks ls ms g (among_made k cells marks s h)
    ∙ ap (λ b. b && lt_z (pos 0) (gap ls ms)) (all_cong (2 ^ k) (λ c. live (marked marks) c ⇒ leb (weight lower ls ms c) (weight upper ls ms c))
    (λ c. live (open_byte cells) c ⇒ leb (weight lower ls ms c) (weight upper ls ms c)) (λ c l. rw (marks_live k cells marks s h g c l) refl))
