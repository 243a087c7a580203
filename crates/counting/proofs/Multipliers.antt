-- Combinations of limits by multipliers, and the leaf that two of them close.
use Prim.Native.Nat.{ℕ, zero, suc, ◌+◌, ◌*◌, ◌<◌}
use Rattle.std.specs.Prelude.{◌≡◌, ◌⊎◌, Bool, true, false, ◌&&◌, eqb, length}
use Rattle.std.proofs.Math.Path.{refl}
use Rattle.std.proofs.Common.{sym, ◌∙◌, ap, subst, inl, inr}
use mathlib.Core.List.Memᴰ
use mathlib.Core.List.{List, [], ◌∷◌}
use native.Mathlib.Omega.{arith}
use Rattle.logic.specs.Tests.{So, decide, and_l, and_r, so_false, so_eqb, eqb_so, reading}
use Rattle.logic.specs.Lists.{◌∈◌}
use Rattle.logic.specs.Sums.{sum_below, only, only_off, only_zero, only_add, sum_one}
use Rattle.counting.specs.Trees.{Side, lower, upper, same_side, Meets, Limit, limit, share, price, weight, worth}
use Rattle.counting.specs.Trees.{Tree, leaf, live, total, TreeCloses, formed}
use Rattle.counting.proofs.TreeLaws.{gap↔, meets_refl, meets_add}

-- ---- lists of multipliers
plus : List ℕ → List ℕ → List ℕ
plus [] ks = ks
plus (m ∷ ms) [] = m ∷ ms
plus (m ∷ ms) (k ∷ ks) = (m + k) ∷ plus ms ks

zeros : List Limit → List ℕ
zeros [] = []
zeros (l ∷ ls) = 0 ∷ zeros ls

-- 1 for one limit of the list
unit : {l : Limit} {ls : List Limit} → l ∈ ls → List ℕ
unit (Memᴰ.head {xs = ls} e) = 1 ∷ zeros ls
unit (Memᴰ.tail p) = 0 ∷ unit p

plus_long : (n : ℕ) (ms ks : List ℕ) → length ms ≡ n → length ks ≡ n → length (plus ms ks) ≡ n
unfolding plus
plus_long n [] ks p q = q
plus_long n (m ∷ ms) [] p q = p
plus_long zero (m ∷ ms) (k ∷ ks) p q = absurd (omega arith)
plus_long (suc n) (m ∷ ms) (k ∷ ks) p q = ap suc (plus_long n ms ks (omega arith) (omega arith))

zeros_long : (ls : List Limit) → length (zeros ls) ≡ length ls
unfolding zeros
zeros_long [] = refl
zeros_long (l ∷ ls) = ap suc (zeros_long ls)

unit_long : {l : Limit} {ls : List Limit} (p : l ∈ ls) → length (unit p) ≡ length ls
unfolding unit
unit_long (Memᴰ.head {xs = ls} e) = ap suc (zeros_long ls)
unit_long (Memᴰ.tail p) = ap suc (unit_long p)

-- what each limit adds by its multiplier, added up: a weight is such a sum, and so is a worth
tally : (Limit → ℕ → ℕ) → List Limit → List ℕ → ℕ
tally f [] ms = 0
tally f (l ∷ ls) [] = 0
tally f (l ∷ ls) (m ∷ ms) = f l m + tally f ls ms

weight_tally : (s : Side) (c : ℕ) (ls : List Limit) (ms : List ℕ) → weight s ls ms c ≡ tally (λ l m. share s l m c) ls ms
unfolding tally
weight_tally s c [] ms = refl
weight_tally s c (l ∷ ls) [] = refl
weight_tally s c (l ∷ ls) (m ∷ ms) = ap (share s l m c +◌) (weight_tally s c ls ms)

worth_tally : (s : Side) (ls : List Limit) (ms : List ℕ) → worth s ls ms ≡ tally (price s) ls ms
unfolding tally
worth_tally s [] ms = refl
worth_tally s (l ∷ ls) [] = refl
worth_tally s (l ∷ ls) (m ∷ ms) = ap (price s l m +◌) (worth_tally s ls ms)

module _ (f : Limit → ℕ → ℕ) (f-add : (l : Limit) (m k : ℕ) → f l (m + k) ≡ f l m + f l k) where
  tally_plus : (ls : List Limit) (ms ks : List ℕ) → tally f ls (plus ms ks) ≡ tally f ls ms + tally f ls ks
  unfolding tally plus
  tally_plus [] ms ks = refl
  tally_plus (l ∷ ls) [] ks = omega arith
  tally_plus (l ∷ ls) (m ∷ ms) [] = omega arith
  tally_plus (l ∷ ls) (m ∷ ms) (k ∷ ks) = omega (arith, f-add l m k, tally_plus ls ms ks)

  tally_zeros : (ls : List Limit) → tally f ls (zeros ls) ≡ 0
  unfolding tally zeros
  tally_zeros [] = refl
  tally_zeros (l ∷ ls) = omega (arith, f-add l 0 0, tally_zeros ls)

  tally_unit : {l : Limit} {ls : List Limit} (p : l ∈ ls) → tally f ls (unit p) ≡ f l 1
  unfolding tally unit
  tally_unit (Memᴰ.head {x = x} {xs = ls} e) = rw e (omega (arith, tally_zeros ls))
  tally_unit (Memᴰ.tail {x = x} p) = omega (arith, f-add x 0 0, tally_unit p)

share_add : (s : Side) (c : ℕ) (l : Limit) (m k : ℕ) → share s l (m + k) c ≡ share s l m c + share s l k c
share_add s c (limit r b p) m k = only_add (same_side s r && p c) m k

price_add : (s : Side) (l : Limit) (m k : ℕ) → price s l (m + k) ≡ price s l m + price s l k
price_add s (limit r b p) m k = let e : (m + k) * b ≡ m * b + k * b = omega arith in rw e (only_add (same_side s r) (m * b) (k * b))

-- ---- sides
abbrev pub other : Side → Side
other lower = upper
other upper = lower

own_side : (s : Side) → same_side s s ≡ true
own_side lower = refl
own_side upper = refl

no_side : (s : Side) → same_side (other s) s ≡ false
no_side lower = refl
no_side upper = refl

meets_trans : (s : Side) (a b c : ℕ) → Meets s a b → Meets s b c → Meets s a c
meets_trans lower a b c h k = omega arith
meets_trans upper a b c h k = omega arith

-- ---- combinations
abbrev pub ClosingTree : (n : ℕ) (open? : ℕ → Bool) → List Limit → Type 0
ClosingTree n open? ls = (t : Tree) × So (formed (length ls) t) × TreeCloses n open? ls t

-- the limits ls say of the cell c that its size is at least v, or at most v
abbrev pub Pin : Side → List Limit → ℕ → ℕ → Type 0
Pin lower ls v c = (v ≡ 0) ⊎ (limit lower v (eqb c) ∈ ls)
Pin upper ls v c = limit upper v (eqb c) ∈ ls

module _ (n : ℕ) (open? : ℕ → Bool) (ls : List Limit) where
  abbrev weights : Side → List ℕ → ℕ → ℕ
  weights s ms c = tally (λ l m. share s l m c) ls ms

  -- Multipliers for limits of the side s alone. An open cell c has the weight w c, or less on the lower side, more on the upper one;
  -- the worth is b. So any sizes, each times its weight in w, total at least b, or at most b.
  record Combination (s : Side) (w : ℕ → ℕ) (b : ℕ) : Type 0 where
    ms : List ℕ
    long : length ms ≡ length ls
    weighs : (c : ℕ) → c < n → So (live open? c) → Meets (other s) (w c) (weights s ms c)
    worths : tally (price s) ls ms ≡ b
    no_weight : (c : ℕ) → weights (other s) ms c ≡ 0
    no_worth : tally (price (other s)) ls ms ≡ 0

  none : (s : Side) → Combination s (λ _. 0) 0
  none s = record {
    ms = zeros ls;
    long = zeros_long ls;
    weighs = λ c _ _. rw (tally_zeros _ (share_add s c) ls) (meets_refl (other s) 0);
    worths = tally_zeros _ (price_add s) ls;
    no_weight = λ c. tally_zeros _ (share_add (other s) c) ls;
    no_worth = tally_zeros _ (price_add (other s)) ls;
  }

  one : (s : Side) (b : ℕ) (k : ℕ → Bool) → limit s b k ∈ ls → Combination s (λ c. only (k c) 1) b
  one s b k p = record {
    ms = unit p;
    long = unit_long p;
    weighs = λ c _ _. rw (tally_unit _ (share_add s c) p, own_side s) (meets_refl (other s) (only (k c) 1));
    worths = rw (tally_unit _ (price_add s) p, own_side s) (omega arith);
    no_weight = λ c. rw (tally_unit _ (share_add (other s) c) p, no_side s);
    no_worth = rw (tally_unit _ (price_add (other s)) p, no_side s);
  }

  both : (s : Side) (v w : ℕ → ℕ) (a b : ℕ) → Combination s v a → Combination s w b → Combination s (λ c. v c + w c) (a + b)
  both s v w a b p q = record {
    ms = plus p.ms q.ms;
    long = plus_long (length ls) p.ms q.ms p.long q.long;
    weighs = λ c l o. rw (tally_plus _ (share_add s c) ls p.ms q.ms) (meets_add (other s) _ _ _ _ (p.weighs c l o) (q.weighs c l o));
    worths = rw (tally_plus _ (price_add s) ls p.ms q.ms, p.worths, q.worths);
    no_weight = λ c. rw (tally_plus _ (share_add (other s) c) ls p.ms q.ms, p.no_weight c, q.no_weight c);
    no_worth = rw (tally_plus _ (price_add (other s)) ls p.ms q.ms, p.no_worth, q.no_worth);
  }

  -- other weights that are as good in the open cells
  weaker : (s : Side) (v w : ℕ → ℕ) (b : ℕ) → ((c : ℕ) → c < n → So (live open? c) → Meets (other s) (v c) (w c))
      → Combination s w b → Combination s v b
  weaker s v w b h p = record {
    ms = p.ms;
    long = p.long;
    weighs = λ c l o. meets_trans (other s) _ _ _ (h c l o) (p.weighs c l o);
    worths = p.worths;
    no_weight = p.no_weight;
    no_worth = p.no_worth;
  }

  many : (s : Side) (w : ℕ → ℕ → ℕ) (b : ℕ → ℕ) (j : ℕ) → ((i : ℕ) → i < j → Combination s (w i) (b i))
      → Combination s (λ c. sum_below j (λ i. w i c)) (sum_below j b)
  unfolding sum_below
  many s w b zero h = none s
  many s w b (suc j) h = both s _ _ _ _ (many s w b j (λ i l. h i (omega arith))) (h j (omega arith))

  -- the same weights with a lower bound above the upper one: a leaf closes
  clash : (w : ℕ → ℕ) (a b : ℕ) → Combination lower w a → Combination upper w b → b < a → ClosingTree n open? ls
  unfolding formed
  clash w a b p q h = (
    leaf ms,
    simp reading (omega (arith, plus_long (length ls) p.ms q.ms p.long q.long)),
    record {
      balanced = λ c l o. rw (weight_tally lower c ls ms, weight_tally upper c ls ms) (omega (
        arith,
        tally_plus _ (share_add lower c) ls p.ms q.ms,
        tally_plus _ (share_add upper c) ls p.ms q.ms,
        p.no_weight c,
        p.weighs c l o,
        q.no_weight c,
        q.weighs c l o,
      ));
      above_zero = (gap↔ ls ms).1 (rw (worth_tally lower ls ms, worth_tally upper ls ms) (omega (
        arith,
        tally_plus _ (price_add lower) ls p.ms q.ms,
        tally_plus _ (price_add upper) ls p.ms q.ms,
        p,
        q,
      )));
    },
  )
    where
      ms : List ℕ
      ms = plus p.ms q.ms

  -- ---- pinned cells
  pin : (s : Side) (v c : ℕ) → Pin s ls v c → Combination s (λ d. only (eqb c d) 1) v
  pin lower v c (inl z) = rw z (weaker lower _ (λ _. 0) 0 (λ d _ _. omega arith) (none lower))
  pin lower v c (inr p) = one lower v (eqb c) p
  pin upper v c p = one upper v (eqb c) p

  -- the pins of the open cells that k counts
  pins : (s : Side) (k : ℕ → Bool) (x : ℕ → ℕ) → ((c : ℕ) → c < n → So (live open? c) → So (k c) → Pin s ls (x c) c)
      → Combination s (λ c. only (k c) 1) (total n open? x k)
  pins s k x h = weaker s _ _ _ (λ c l o. subst (Meets (other s) (only (k c) 1)) (sym (once c l o)) (meets_refl (other s) (only (k c) 1)))
      (many s (λ i c. only (live open? i && k i) (only (eqb i c) 1)) (λ i. only (live open? i && k i) (x i)) n each)
    where
      each : (i : ℕ) → i < n → Combination s (λ c. only (live open? i && k i) (only (eqb i c) 1)) (only (live open? i && k i) (x i))
      each i l = elim (decide (live open? i && k i)) [
        | inl u ↦ rw u (pin s (x i) i (h i l (and_l (live open? i) (k i) u) (and_r (live open? i) (k i) u)))
        | inr u ↦ rw (so_false _ u) (none s)
      ]

      once : (c : ℕ) → c < n → So (live open? c) → sum_below n (λ i. only (live open? i && k i) (only (eqb i c) 1)) ≡ only (k c) 1
      once c l o = sum_one n _ c l (λ i _ ne. rw (only_off (eqb i c) 1 (λ t. ne (so_eqb i c t))) (only_zero (live open? i && k i))) ∙ rw (eqb_so c, o)

  -- a limit that the sizes x break, against the pins of its cells
  pub broken_closes : (s : Side) (b : ℕ) (k : ℕ → Bool) (x : ℕ → ℕ) → limit s b k ∈ ls → (Meets s b (total n open? x k) → ⊥)
      → ((c : ℕ) → c < n → So (live open? c) → So (k c) → Pin (other s) ls (x c) c) → ClosingTree n open? ls
  broken_closes lower b k x p h q = clash _ _ _ (one lower b k p) (pins upper k x q) (omega arith)
  broken_closes upper b k x p h q = clash _ _ _ (pins lower k x q) (one upper b k p) (omega arith)
