-- Laws of trees: the tests are the statements, a tree that closes leaves no sizes, and only the open cells below n matter.
use Rattle.std.specs.Prelude.{ℕ, ◌+◌, ◌-◌, ◌*◌, ◌≤◌, ◌<◌, ◌≡◌, refl, ◌↔◌, Bool, true, false, ◌&&◌, List, [], ◌∷◌, ◌++◌, eqb, ltb, pos}
use Rattle.std.proofs.Common.{sym, ◌∙◌, subst, inl, inr, arith, mul-le-mul_left}
use Rattle.std.proofs.Math.Logic.Iff
use Rattle.std.proofs.lemmas.Bool.{false≢true}
use Rattle.std.proofs.Math.Decide.{dec_le}
use Rattle.std.proofs.Math.IntN.{sub_ℕ}
use Rattle.std.specs.Int.Signed.{lt_z}
use Rattle.logic.specs.Tests.{So, decide, so_and, and_l, and_r, so_false, so_ltb, ltb_so, so_eqb, eqb_so, and↔, reading}
use Rattle.logic.specs.Bounded.{below}
use Rattle.logic.specs.Sums.{sum_below, only, only_on, only_off, sum_cong, sum_le, sum_zero, sum_add, sum_mul, sum_one}
use Rattle.counting.specs.Trees.{Side, lower, upper, same_side, Meets, Limit, limit, at_most, more_than, share, price, weight, worth, gap}
use Rattle.counting.specs.Trees.{Tree, leaf, split, live, total, Holds, HoldAll, LeafCloses, TreeCloses, leaf_test, tree_test, ValuesFit}

-- every value is within no limit
pub fits_all : (t : Tree) → ValuesFit (λ _. true) t
fits_all (leaf ms) = tt
fits_all (split c v l r) = (refl, fits_all l, fits_all r)

-- ---- the gap is above zero
pub gap↔ : (ls : List Limit) (ms : List ℕ) → So (lt_z (pos 0) (gap ls ms)) ↔ (worth upper ls ms < worth lower ls ms)
gap↔ ls ms = above (worth lower ls ms) (worth upper ls ms)
  where
    above : (a b : ℕ) → So (lt_z (pos 0) (sub_ℕ a b)) ↔ (b < a)
    above a b = elim (decide (ltb a b)) [
      | inl u ↦ rw u (λ h. absurd (false≢true h), λ h. absurd (omega (arith, so_ltb a b u)))
      | inr u ↦ rw (so_false _ u) (λ h. omega (arith, so_ltb 0 (a - b) h), λ h. ltb_so 0 (a - b) (omega arith))
    ]

-- ---- bounds on one side, added up
pub meets_refl : (s : Side) (b : ℕ) → Meets s b b
meets_refl lower b = omega arith
meets_refl upper b = omega arith

pub meets_add : (s : Side) (a b c d : ℕ) → Meets s a b → Meets s c d → Meets s (a + c) (b + d)
meets_add lower a b c d h k = omega arith
meets_add upper a b c d h k = omega arith

module _ (n : ℕ) (open? : ℕ → Bool) where
  -- ---- the tests are the statements
  pub live↔ : (c : ℕ) → So (live open? c) ↔ ((0 < c) × So (open? c))
  live↔ c = simp reading Iff.rfl

  pub leaf↔ : (ls : List Limit) (ms : List ℕ) → So (leaf_test n open? ls ms) ↔ LeafCloses n open? ls ms
  unfolding leaf_test
  leaf↔ ls ms = (λ h. let e = both.0 h in record { balanced = e.0; above_zero = e.1 }, λ h. both.1 (h.balanced, h.above_zero))
    where
      both : So (leaf_test n open? ls ms)
          ↔ (((c : ℕ) → c < n → So (live open? c) → weight lower ls ms c ≤ weight upper ls ms c) × So (lt_z (pos 0) (gap ls ms)))
      both = simp below Iff.rfl

  pub tree↔ : (fits : ℕ → Bool) (ls : List Limit) (t : Tree) → So (tree_test n open? fits ls t) ↔ (TreeCloses n open? ls t × ValuesFit fits t)
  unfolding tree_test
  tree↔ fits ls (leaf ms) = (λ h. ((leaf↔ ls ms).0 h, tt), λ h. (leaf↔ ls ms).1 h.0)
  tree↔ fits ls (split c v l r) = let low = ls ++ (at_most c v ∷ []) in let high = ls ++ (more_than c v ∷ []) in
      let p = tree↔ fits low l in let q = tree↔ fits high r in
      let e = parts (ltb c n) (live open? c) (fits v) (tree_test n open? fits low l) (tree_test n open? fits high r) in (
        λ h. let g = e.0 h in let a = p.0 g.1.0 in let b = q.0 g.1.1 in
            ((so_ltb c n g.0.0, g.0.1.0, a.0, b.0), (g.0.1.1, a.1, b.1)),
        λ h. e.1 ((ltb_so c n h.0.0, (h.0.1, h.1.0)), (p.1 (h.0.2, h.1.1), q.1 (h.0.3, h.1.2))),
      )
    where
      parts : (a b f p q : Bool) → So ((a && (b && f)) && (p && q)) ↔ ((So a × (So b × So f)) × (So p × So q))
      parts a b f p q = simp and↔ Iff.rfl

  -- ---- soundness
  -- the sizes of the open cells, each times its weight, added up
  abbrev weighed : (ℕ → ℕ) → (ℕ → ℕ) → ℕ
  weighed x w = sum_below n (λ c. only (live open? c) (x c) * w c)

  weighed_add : (x v w : ℕ → ℕ) → weighed x (λ c. v c + w c) ≡ weighed x v + weighed x w
  weighed_add x v w = sum_cong n _ (λ c. only (live open? c) (x c) * v c + only (live open? c) (x c) * w c) (λ c l. omega arith) ∙ sum_add n _ _

  weighed_zero : (x : ℕ → ℕ) → weighed x (λ c. 0) ≡ 0
  weighed_zero x = sum_zero n _ (λ c l. omega arith)

  -- what one limit adds: its multiplier times its total, on its own side
  weighed_limit : (s : Side) (l : Limit) (m : ℕ) (x : ℕ → ℕ) → Holds n open? x l → Meets s (price s l m) (weighed x (share s l m))
  weighed_limit s (limit r b k) m x h = subst (Meets s _) (sym spread) (times s r _ h)
    where
      point : (g o q : Bool) (a : ℕ) → only o a * only (g && q) m ≡ only g m * only (o && q) a
      point true true true a = omega arith
      point true true false a = omega arith
      point true false q a = omega arith
      point false true q a = omega arith
      point false false q a = refl

      spread : weighed x (share s (limit r b k) m) ≡ only (same_side s r) m * total n open? x k
      spread = sum_cong n _ _ (λ c l. point (same_side s r) (live open? c) (k c) (x c)) ∙ sum_mul n (only (same_side s r) m) _

      times : (s r : Side) (t : ℕ) → Meets r b t → Meets s (only (same_side s r) (m * b)) (only (same_side s r) m * t)
      times lower lower t h = mul-le-mul_left m h
      times lower upper t h = omega arith
      times upper lower t h = omega arith
      times upper upper t h = mul-le-mul_left m h

  weighed_all : (s : Side) (ls : List Limit) (ms : List ℕ) (x : ℕ → ℕ) → HoldAll n open? ls x → Meets s (worth s ls ms) (weighed x (weight s ls ms))
  weighed_all s [] ms x h = subst (Meets s 0) (sym (weighed_zero x)) (meets_refl s 0)
  weighed_all s (l ∷ ls) [] x h = subst (Meets s 0) (sym (weighed_zero x)) (meets_refl s 0)
  weighed_all s (l ∷ ls) (m ∷ ms) x h = subst (Meets s _) (sym (weighed_add x (share s l m) (weight s ls ms)))
      (meets_add s _ _ _ _ (weighed_limit s l m x h.0) (weighed_all s ls ms x h.1))

  -- by its gap a leaf's lower worth is above its upper worth; by its balance the weighed sizes lie between them the other way
  leaf_sound : (ls : List Limit) (ms : List ℕ) → LeafCloses n open? ls ms → (x : ℕ → ℕ) → HoldAll n open? ls x → ⊥
  leaf_sound ls ms h x k = omega (
    arith,
    (gap↔ ls ms).0 h.above_zero,
    weighed_all lower ls ms x k,
    weighed_all upper ls ms x k,
    sum_le n (λ c. only (live open? c) (x c) * weight lower ls ms c) _ (λ c l. point (live open? c) (x c) _ _ (h.balanced c l)),
  )
    where
      point : (o : Bool) (a p q : ℕ) → (So o → p ≤ q) → only o a * p ≤ only o a * q
      point true a p q t = mul-le-mul_left a (t refl)
      point false a p q t = omega arith

  -- a split bounds one size: the total of one open cell is its size
  total_one : (x : ℕ → ℕ) (c : ℕ) → c < n → So (live open? c) → total n open? x (eqb c) ≡ x c
  total_one x c l o = sum_one n _ c l (λ d _ ne. only_off (live open? d && eqb c d) (x d) (λ t. ne (sym (so_eqb c d (and_r (live open? d) _ t)))))
      ∙ only_on (live open? c && eqb c c) (x c) (so_and (live open? c) _ o (eqb_so c))

  hold_snoc : (x : ℕ → ℕ) (ls : List Limit) (l : Limit) → HoldAll n open? ls x → Holds n open? x l → HoldAll n open? (ls ++ (l ∷ [])) x
  hold_snoc x [] l h k = (k, tt)
  hold_snoc x (y ∷ ls) l h k = (h.0, hold_snoc x ls l h.1 k)

  -- a tree that closes leaves no sizes: they are in one half of each split
  pub tree_sound : (t : Tree) (ls : List Limit) → TreeCloses n open? ls t → (x : ℕ → ℕ) → HoldAll n open? ls x → ⊥
  tree_sound (leaf ms) ls h x k = leaf_sound ls ms h x k
  tree_sound (split c v l r) ls h x k = let e = total_one x c h.0 h.1 in elim (dec_le (x c) v) [
    | yes d ↦ tree_sound l _ h.2 x (hold_snoc x ls (at_most c v) k (omega arith))
    | no d ↦ tree_sound r _ h.3 x (hold_snoc x ls (more_than c v) k (omega arith))
  ]

  -- whether a tree closes is told by the open cells above 0 and below n
  pub tree_open : (open' : ℕ → Bool) → ((c : ℕ) → c < n → 0 < c → open' c ≡ open? c) → (ls : List Limit) (t : Tree)
      → TreeCloses n open? ls t → TreeCloses n open' ls t
  tree_open open' e ls (leaf ms) h = record {
    balanced = λ c l o. h.balanced c l (rw (e c l (so_ltb 0 c (and_l (ltb 0 c) (open' c) o))) at o);
    above_zero = h.above_zero;
  }
  tree_open open' e ls (split c v l r) h = (
    h.0,
    rw (e c h.0 (so_ltb 0 c (and_l (ltb 0 c) (open? c) h.1))) h.1,
    tree_open open' e (ls ++ at_most c v ∷ []) l h.2,
    tree_open open' e (ls ++ more_than c v ∷ []) r h.3,
  )
