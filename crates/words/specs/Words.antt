-- Sets built in a loop and compared as whole words: each operation is the test of all or of some numbers below the bound.
use Rattle.std.specs.Prelude.{ℕ, zero, suc, ◌+◌, ◌-◌, ◌*◌, ◌/◌, ◌%◌, ◌^◌, ◌≤◌, ◌<◌, ◌≡◌, refl, ◌⊎◌, Bool, true, false, cond, not, ◌&&◌, eqb, ltb}
use Rattle.std.proofs.Common.{sym, ◌∙◌, ap, ap₂, inl, inr, arith, mod-eq_of_lt, one-mul, add-one, lt-ltb, pow_pos, shl_exact}
use Rattle.std.specs.Int.Bits.{bit_and, bit_or}
use Rattle.std.specs.Int.Count.{ones, ones_step}
use Rattle.std.proofs.Math.Pow.{pow-lt}
use Rattle.logic.specs.Tests.{So, ◌⇒◌, so_and, and_l, and_r, imp_in, imp_out, same_test, so_eqb, so_ltb, eqb↔}
use Rattle.logic.specs.Bounded.{all_below, any_below, all_intro, all_elim, any_intro, any_elim, below_cases}
use Rattle.logic.specs.Sums.{only, only_le, count_below, sum_below, sum_front}
use Rattle.logic.specs.Sets.{has, nonempty, within, with, set_of}
use Rattle.logic.specs.SetLaws.{has_set_of, set_of_lt, set_of↔, set_of_cong, set_ext, and_members, within↔, with↔, nonempty↔}

-- the set of all numbers below k
abbrev pub all_of : ℕ → ℕ
all_of k = 2 ^ k - 1

-- ---- one number more
-- the set x with i put in, if the test passes
abbrev pub put_in : ℕ → ℕ → Bool → ℕ
put_in x i b = cond b (with x i) x

pub set_none : (p : ℕ → Bool) → 0 ≡ set_of 0 p
unfolding set_of
set_none p = refl

pub set_more : (p : ℕ → Bool) (i x y : ℕ) (b : Bool) → x ≡ set_of i p → b ≡ p i → y ≡ put_in x i b → y ≡ set_of (i + 1) p
set_more p i x y b e q r = r ∙ rw (e, q, add-one i) (set_ext _ _
    (λ j u. (set_of↔ (suc i) p j).1 (out j (p i) refl u))
    (λ j u. let w = (set_of↔ (suc i) p j).0 u in back j (p i) refl (below_cases j i w.0) w.1))
  where
    out : (j : ℕ) (c : Bool) → p i ≡ c → So (has (cond c (with (set_of i p) i) (set_of i p)) j) → (j < suc i) × So (p j)
    out j true z u = elim ((with↔ (set_of i p) i j).0 u) [ inl v ↦ (let w = (set_of↔ i p j).0 v in (omega (arith, w.0), w.1)) | inr v ↦ rw v (omega arith, z) ]
    out j false z u = let w = (set_of↔ i p j).0 u in (omega (arith, w.0), w.1)

    back : (j : ℕ) (c : Bool) → p i ≡ c → (j < i) ⊎ (j ≡ i) → So (p j) → So (has (cond c (with (set_of i p) i) (set_of i p)) j)
    back j true z (inl l) v = (with↔ (set_of i p) i j).1 (inl ((set_of↔ i p j).1 (l, v)))
    back j true z (inr l) v = (with↔ (set_of i p) i j).1 (inr l)
    back j false z (inl l) v = (set_of↔ i p j).1 (l, v)
    back j false z (inr l) v = absurd (let w : So (p i) = rw l at v in let n : ◌≡◌ {A = ℕ} 0 1 = cc in omega arith)

pub set_done : (p : ℕ → Bool) (i x n : ℕ) → i ≤ n → n ≤ i → x ≡ set_of i p → x ≡ set_of n p
set_done p i x n h k e = let z : i ≡ n = omega arith in rw z at e

-- the same in a word of k digits: only numbers below k are put in
pub in_word_lem : (k i : ℕ) (b c : Bool) → i < k → b ≡ c → (ltb i k && b) ≡ c
in_word_lem k i b c h e = rw (lt-ltb _ _ h) e

pub put_on : (k x i : ℕ) (b : Bool) → (ltb i k && b) ≡ true → bit_or x (1 * 2 ^ (i % k) % 2 ^ k) ≡ put_in x i (ltb i k && b)
unfolding with
put_on k x i b e = let h : i < k = so_ltb i k (and_l (ltb i k) b e) in
    rw e (ap (bit_or x) (rw (mod-eq_of_lt h, one-mul) (mod-eq_of_lt (pow-lt {j = k} h))))

pub put_off : (k x i : ℕ) (b : Bool) → (ltb i k && b) ≡ false → x ≡ put_in x i (ltb i k && b)
put_off k x i b e = rw e refl

-- ---- each number one higher
-- the set x with each number one higher, and with 0 if the test passes, in a word of 64 digits
abbrev pub pushed : ℕ → Bool → ℕ
pushed x b = x * 2 % 2 ^ 64 + only b 1

pub push_on : (x : ℕ) (b : Bool) → b ≡ true → x * 2 ^ 1 % 2 ^ 64 + 1 ≡ pushed x b
push_on x b e = rw e refl

pub push_off : (x : ℕ) (b : Bool) → b ≡ false → x * 2 ^ 1 % 2 ^ 64 ≡ pushed x b
push_off x b e = rw e (omega arith)

-- a set made from its greatest number down: after the numbers below k and not below y comes y - 1
pub push_none : (p : ℕ → Bool) (k : ℕ) → 0 ≡ set_of (k - k) (λ j. p (k + j))
push_none p k = let z : k - k ≡ 0 = omega arith in rw z (set_none (λ j. p (k + j)))

pub push_more : (p : ℕ → Bool) (k y x q : ℕ) (b : Bool) → k ≤ 64 → 0 < y → y ≤ k
    → x ≡ set_of (k - y) (λ j. p (y + j)) → b ≡ p (y - 1) → q ≡ pushed x b
    → q ≡ set_of (k - (y - 1)) (λ j. p (y - 1 + j))
unfolding set_of
push_more p k y x q b h o l e f r =
    let m = k - y in
    let z : k - (y - 1) ≡ suc m = omega arith in
    let n : x * 2 % 2 ^ 64 ≡ x * 2 = shl_exact m 1 64 (rw e (set_of_lt m (λ j. p (y + j)))) (omega arith) in
    let a : only b 1 ≡ only (p (y - 1 + 0)) 1 = ap (λ c. only c 1) (f ∙ ap p (let u : y - 1 ≡ y - 1 + 0 = omega arith in u)) in
    let s : set_of m (λ j. p (y + j)) ≡ set_of m (λ j. p (y - 1 + suc j)) =
    set_of_cong m _ _ (λ j _. ap p (let u : y + j ≡ y - 1 + suc j = omega arith in u)) in
    rw z (omega (arith, r, n, a, s, e))

pub push_done : (p : ℕ → Bool) (k y x : ℕ) → y ≤ 0 → x ≡ set_of (k - y) (λ j. p (y + j)) → x ≡ set_of k p
push_done p k y x h e = let z : k - y ≡ k = omega arith in
    (rw z at e) ∙ set_of_cong k _ _ (λ j _. ap p (let u : y + j ≡ j = omega arith in u))

-- ---- whole words
pub all_set_of : (k : ℕ) → all_of k ≡ set_of k (λ i. true)
unfolding set_of
all_set_of zero = refl
all_set_of (suc k) = omega (arith, all_set_of k, pow_pos k)

pub not_set_of : (k : ℕ) (p : ℕ → Bool) → all_of k - set_of k p ≡ set_of k (λ i. not (p i))
unfolding set_of
not_set_of k p = omega (arith, sums k p)
  where
    one : (b : Bool) → only b 1 + only (not b) 1 ≡ 1
    one true = refl
    one false = refl

    sums : (k : ℕ) (p : ℕ → Bool) → set_of k p + set_of k (λ i. not (p i)) ≡ all_of k
    sums zero p = refl
    sums (suc k) p = omega (arith, one (p 0), sums k (λ i. p (suc i)), pow_pos k)

pub and_set_of : (k : ℕ) (p q : ℕ → Bool) → bit_and (set_of k p) (set_of k q) ≡ set_of k (λ i. p i && q i)
and_set_of k p q = set_ext _ _
    (λ i u. let w = (and_members (set_of k p) (set_of k q) i).0 u in let v = (set_of↔ k p i).0 w.0 in
    (set_of↔ k (λ i. p i && q i) i).1 (v.0, so_and (p i) (q i) v.1 ((set_of↔ k q i).0 w.1).1))
    (λ i u. let w = (set_of↔ k (λ i. p i && q i) i).0 u in (and_members (set_of k p) (set_of k q) i).1
    ((set_of↔ k p i).1 (w.0, and_l (p i) (q i) w.1), (set_of↔ k q i).1 (w.0, and_r (p i) (q i) w.1)))

-- the members below k
pub and_all : (k x : ℕ) → bit_and (all_of k) x ≡ set_of k (has x)
and_all k x = rw (all_set_of k) (set_ext _ _
    (λ i u. let w = (and_members (set_of k (λ i. true)) x i).0 u in (set_of↔ k (has x) i).1 (((set_of↔ k (λ i. true) i).0 w.0).0, w.1))
    (λ i u. let w = (set_of↔ k (has x) i).0 u in (and_members (set_of k (λ i. true)) x i).1 ((set_of↔ k (λ i. true) i).1 (w.0, refl), w.1)))

pub within_set_of : (k : ℕ) (p q : ℕ → Bool) → within (set_of k p) (set_of k q) ≡ all_below k (λ i. p i ⇒ q i)
within_set_of k p q = same_test _ _
    (λ h. all_intro k (λ i. p i ⇒ q i) (λ i l. imp_in (p i) (q i) (λ u. ((set_of↔ k q i).0 ((within↔ (set_of k p) (set_of k q)).0 h i ((set_of↔ k p i).1 (l, u)))).1)))
    (λ h. (within↔ (set_of k p) (set_of k q)).1 (λ i u. let w = (set_of↔ k p i).0 u in (set_of↔ k q i).1 (w.0, imp_out (p i) (q i) (all_elim k (λ i. p i ⇒ q i) h i w.0) w.1)))

pub full_set_of : (k : ℕ) (p : ℕ → Bool) → eqb (set_of k p) (all_of k) ≡ all_below k p
full_set_of k p = same_test _ _
    (λ h. all_intro k p (λ i l. sym (has_set_of k p i l) ∙ ap (λ n. has n i) (so_eqb (set_of k p) (all_of k) h ∙ all_set_of k) ∙ has_set_of k (λ i. true) i l))
    (λ h. (eqb↔ (set_of k p) (all_of k)).1 (set_of_cong k p (λ i. true) (all_elim k p h) ∙ sym (all_set_of k)))

pub some_set_of : (k : ℕ) (p : ℕ → Bool) → nonempty (set_of k p) ≡ any_below k p
some_set_of k p = same_test _ _
    (λ h. let w = (nonempty↔ (set_of k p)).0 h in let v = (set_of↔ k p w.0).0 w.1 in any_intro k p w.0 v.0 v.1)
    (λ h. let w = any_elim k p h in (nonempty↔ (set_of k p)).1 (w.0, (set_of↔ k p w.0).1 (w.1, w.2)))

-- ---- counting members
pub count_ones : (k : ℕ) (p : ℕ → Bool) → ones (set_of k p) ≡ count_below k p
unfolding set_of sum_below ones
count_ones zero p = refl
count_ones (suc k) p = ones_step (set_of (suc k) p)
    ∙ ap₂ ◌+◌ low (ap ones high ∙ count_ones k (λ i. p (suc i)))
    ∙ sym (sum_front k (λ i. only (p i) 1))
  where
    low : set_of (suc k) p % 2 ≡ only (p 0) 1
    low = omega (arith, only_le (p 0) 1)

    high : set_of (suc k) p / 2 ≡ set_of k (λ i. p (suc i))
    high = omega (arith, only_le (p 0) 1)

-- the members below k
pub size_word : (k x n y : ℕ) → n ≡ all_of k → y ≡ ones (bit_and n x) → y ≡ count_below k (has x)
size_word k x n y e f = f ∙ ap (λ m. ones (bit_and m x)) e ∙ ap ones (and_all k x) ∙ count_ones k (has x)

-- ---- as code has them, in a word of 64 digits
-- the set of all
pub all_word : (k : ℕ) → k < 64 → 1 * 2 ^ k % 2 ^ 64 - 1 ≡ all_of k
all_word k h = rw (one-mul, mod-eq_of_lt (pow-lt {j = 64} h)) refl

pub word_some : (k : ℕ) → k < 64 → 1 ≤ 1 * 2 ^ k % 2 ^ 64
word_some k h = rw (one-mul, mod-eq_of_lt (pow-lt {j = 64} h)) (pow_pos k)

-- a set within another
pub within_read : (m n k : ℕ) → m ≡ n → eqb (bit_and m k) m ≡ within n k
unfolding within
within_read m n k e = rw e refl
