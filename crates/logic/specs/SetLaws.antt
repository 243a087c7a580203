-- Laws of sets as numbers, for any width: membership decides a set, and each operation is told by its members.
use Rattle.std.specs.Prelude.{ℕ, zero, suc, ◌+◌, ◌*◌, ◌/◌, ◌%◌, ◌^◌, ◌<◌, ◌≤◌, min, max, ◌≡◌, refl, Bool, true, false, ◌||◌, ◌&&◌, ◌↔◌, ◌⊎◌, eqb, ltb}
use Rattle.std.proofs.Common.{◌∙◌, sym, ap, subst, inl, inr, arith, div-one, mod-lt, mul_comm, pow-suc, mod-eq_of_lt, one-mul, pow_mono, pow_pos}
use Rattle.std.proofs.Math.Decide.{dec_le, dec_lt}
use Rattle.std.proofs.Math.Nat.{div-eq_of_lt, div_self, div-div-eq-div-mul}
use Rattle.std.proofs.Math.Arith.{digits_mod}
use Rattle.std.proofs.Math.Pow.{pow-lt}
use Rattle.std.specs.Int.Bits.{bit_and, bit_or, and_step, or_step}
use Rattle.std.proofs.lemmas.Nat.{and_shr, or_shr}
use Rattle.logic.specs.Tests.{So, so_eqb, so_false, same_test, or_l, or_r, or_cases, or↔, so_ltb, ltb_so, eqb↔}
use Rattle.logic.specs.Sums.{only, only_le}
use Rattle.logic.specs.Sets.{has, nonempty, narrow, within, with, set_of}

-- ---- digits
abbrev digit : ℕ → ℕ → ℕ
digit n i = n / 2 ^ i % 2

digit_lt : (n i : ℕ) → digit n i < 2
digit_lt n i = mod-lt (n / 2 ^ i) (omega arith)

has_digit : (n i : ℕ) → So (has n i) → digit n i ≡ 1
unfolding has
has_digit n i h = so_eqb (n / 2 ^ i % 2) 1 h

digit_has : (n i : ℕ) → digit n i ≡ 1 → So (has n i)
unfolding has
digit_has n i e = rw e refl

digit_suc : (n i : ℕ) → digit n (suc i) ≡ digit (n / 2) i
digit_suc n i = rw (pow-suc 2 i, mul_comm (2 ^ i) 2, ← div-div-eq-div-mul n 2 (2 ^ i))

pub has_suc : (n i : ℕ) → has n (suc i) ≡ has (n / 2) i
unfolding has
has_suc n i = ap (λ (d : ℕ). eqb d 1) (digit_suc n i)

digit_first : (n : ℕ) → digit n 0 ≡ n % 2
digit_first n = ap (λ (m : ℕ). m % 2) (div-one n)

-- numbers below 2 ^ k with the same digits are equal
digit_ext : (k a b : ℕ) → a < 2 ^ k → b < 2 ^ k → ((i : ℕ) → i < k → digit a i ≡ digit b i) → a ≡ b
digit_ext zero a b ha hb h = omega arith
digit_ext (suc k) a b ha hb h =
    let low : a % 2 ≡ b % 2 = sym (digit_first a) ∙ h zero (omega arith) ∙ digit_first b in
    let high : a / 2 ≡ b / 2 =
    digit_ext k (a / 2) (b / 2) (omega arith) (omega arith) (λ i l. sym (digit_suc a i) ∙ h (suc i) (omega arith) ∙ digit_suc b i) in
    omega arith

-- a digit is 0 or 1, so membership tells it
digit_same : (a b i j : ℕ) → (So (has a i) → So (has b j)) → (So (has b j) → So (has a i)) → digit a i ≡ digit b j
digit_same a b i j f g = go (digit a i) (digit b j) refl refl
  where
    go : (x y : ℕ) → digit a i ≡ x → digit b j ≡ y → digit a i ≡ digit b j
    go zero zero p q = omega arith
    go (suc x) zero p q = absurd (omega (arith, q, has_digit b j (f (digit_has a i (omega (arith, digit_lt a i))))))
    go zero (suc y) p q = absurd (omega (arith, p, has_digit a i (g (digit_has b j (omega (arith, digit_lt b j))))))
    go (suc x) (suc y) p q = omega (arith, digit_lt a i, digit_lt b j)

-- ---- width
pub has_lt : (k n i : ℕ) → n < 2 ^ k → So (has n i) → i < k
has_lt k n i h e = elim (dec_lt i k) [
  | yes p ↦ p
  | no p ↦ let q : 2 ^ k ≤ 2 ^ i = pow_mono (omega arith) in
      let z : n / 2 ^ i ≡ 0 = div-eq_of_lt (omega arith) in
      absurd (omega (arith, has_digit n i e, ap (λ (x : ℕ). x % 2) z))
]

-- membership in a word of k digits, as code tests it: a shift by less than k
pub has_word : (k n i : ℕ) → n < 2 ^ k → (ltb i k && eqb (n / 2 ^ (i % k) % 2) 1) ≡ has n i
unfolding has
has_word k n i h = elim (dec_lt i k) [
  | yes l ↦ rw (ltb_so i k l, mod-eq_of_lt l) refl
  | no l ↦ rw (so_false (ltb i k) (λ u. l (so_ltb i k u))) (sym (so_false (has n i) (λ u. l (has_lt k n i h u))))
]

pub no_member : (i : ℕ) → So (has 0 i) → ⊥
no_member i h = absurd (omega (arith, has_lt 0 0 i (omega arith) h))

pub has_none : (i : ℕ) → has 0 i ≡ false
has_none i = so_false (has 0 i) (no_member i)

pub some_member : (n : ℕ) → 1 ≤ n → (i : ℕ) × So (has n i)
some_member n h = go n n h (omega arith)
  where
    go : (fuel n : ℕ) → 1 ≤ n → n ≤ fuel → (i : ℕ) × So (has n i)
    go zero n h f = absurd (omega arith)
    go (suc fuel) n h f = elim (dec_le 1 (n % 2)) [
      | yes q ↦ (0, digit_has n 0 (digit_first n ∙ (let z : n % 2 ≡ 1 = omega arith in z)))
      | no q ↦ let r = go fuel (n / 2) (omega arith) (omega arith) in (suc r.0, has_suc n r.0 ∙ r.1)
    ]

pub nonempty↔ : (n : ℕ) → So (nonempty n) ↔ ((i : ℕ) × So (has n i))
unfolding nonempty
nonempty↔ n = (
  λ h. some_member n (so_ltb 0 n h),
  λ w. ltb_so 0 n (elim (dec_le 1 n) [
    | yes q ↦ q
    | no q ↦ absurd (let z : n ≡ 0 = omega arith in no_member w.0 (subst (λ m. So (has m w.0)) z w.1))
  ]),
)

-- the set of i alone in a word of k digits, as code makes it: a shifted 1
pub single_word : (k i : ℕ) → i < k → 1 * 2 ^ i % 2 ^ k ≡ 2 ^ i
single_word k i h = ap (λ m. m % 2 ^ k) (one-mul (2 ^ i)) ∙ mod-eq_of_lt (pow-lt h)

-- a set below n in a word of k digits, as code tests it: against a shifted 1
pub narrow_word : (k x n : ℕ) → n < k → ltb x (1 * 2 ^ n % 2 ^ k) ≡ narrow x n
unfolding narrow
narrow_word k x n h = ap (ltb x) (single_word k n h)

-- every word of k digits is below n from k on
pub narrow_whole : (k x n : ℕ) → x < 2 ^ k → k ≤ n → true ≡ narrow x n
unfolding narrow
narrow_whole k x n h g = let w : 2 ^ k ≤ 2 ^ n = pow_mono g in sym (ltb_so x (2 ^ n) (omega arith))

-- a set whose members are below k is a number below 2 ^ k
pub lt_has : (k n : ℕ) → ((i : ℕ) → So (has n i) → i < k) → n < 2 ^ k
lt_has zero n h = elim (dec_le 1 n) [ yes q ↦ absurd (let r = some_member n q in omega (arith, h r.0 r.1)) | no q ↦ omega arith ]
lt_has (suc k) n h = omega (arith, lt_has k (n / 2) (λ i e. let z = h (suc i) (has_suc n i ∙ e) in omega arith))

pub narrow↔ : (n k : ℕ) → So (narrow n k) ↔ ((i : ℕ) → So (has n i) → i < k)
unfolding narrow
narrow↔ n k = (λ h i e. has_lt k n i (so_ltb n (2 ^ k) h) e, λ h. ltb_so n (2 ^ k) (lt_has k n h))

pub set_ext : (a b : ℕ) → ((i : ℕ) → So (has a i) → So (has b i)) → ((i : ℕ) → So (has b i) → So (has a i)) → a ≡ b
set_ext a b f g = digit_ext (max a b) a b (wide a (omega arith)) (wide b (omega arith)) (λ i _. digit_same a b i i (f i) (g i))
  where
    above : (n : ℕ) → n < 2 ^ n
    above zero = omega arith
    above (suc n) = omega (arith, above n)

    wide : (n : ℕ) → n ≤ max a b → n < 2 ^ max a b
    wide n h = let q : 2 ^ n ≤ 2 ^ max a b = pow_mono h in omega (arith, above n)

-- ---- the set of what passes
pub set_of_lt : (k : ℕ) (p : ℕ → Bool) → set_of k p < 2 ^ k
unfolding set_of
set_of_lt zero p = omega arith
set_of_lt (suc k) p = omega (arith, set_of_lt k (λ i. p (suc i)), only_le (p 0) 1)

pub has_set_of : (k : ℕ) (p : ℕ → Bool) (i : ℕ) → i < k → has (set_of k p) i ≡ p i
unfolding set_of
has_set_of zero p i h = absurd (omega arith)
has_set_of (suc k) p zero h = first (p 0) (set_of k (λ i. p (suc i)))
  where
    first : (b : Bool) (r : ℕ) → has (only b 1 + 2 * r) 0 ≡ b
    first true r = digit_has (1 + 2 * r) 0 (digit_first (1 + 2 * r) ∙ (let z : (1 + 2 * r) % 2 ≡ 1 = omega arith in z))
    first false r = so_false _ (λ u. let z = has_digit (0 + 2 * r) 0 u in omega (arith, z, digit_first (0 + 2 * r)))
has_set_of (suc k) p (suc i) h = has_suc _ i
    ∙ ap (λ n. has n i) (let z : (only (p 0) 1 + 2 * set_of k (λ i. p (suc i))) / 2 ≡ set_of k (λ i. p (suc i)) = omega (arith, only_le (p 0) 1) in z)
    ∙ has_set_of k (λ i. p (suc i)) i (omega arith)

pub set_of↔ : (k : ℕ) (p : ℕ → Bool) (i : ℕ) → So (has (set_of k p) i) ↔ ((i < k) × So (p i))
set_of↔ k p i = (
  λ h. let l = has_lt k (set_of k p) i (set_of_lt k p) h in (l, sym (has_set_of k p i l) ∙ h),
  λ h. has_set_of k p i h.0 ∙ h.1,
)

pub set_of_has : (k n : ℕ) → n < 2 ^ k → set_of k (has n) ≡ n
set_of_has k n h = set_ext (set_of k (has n)) n (λ i e. ((set_of↔ k (has n) i).0 e).1) (λ i e. (set_of↔ k (has n) i).1 (has_lt k n i h e, e))

-- ---- intersection, union, inclusion
low_and : (x y : ℕ) → bit_and x y % 2 ≡ min (x % 2) (y % 2)
low_and x y = rw (and_step x y) (digits_mod (bit_and (x / 2) (y / 2)) (omega arith))

low_or : (x y : ℕ) → bit_or x y % 2 ≡ max (x % 2) (y % 2)
low_or x y = rw (or_step x y) (digits_mod (bit_or (x / 2) (y / 2)) (omega arith))

pub and_members : (a b i : ℕ) → So (has (bit_and a b) i) ↔ (So (has a i) × So (has b i))
and_members a b i = (
  λ h. let z = has_digit (bit_and a b) i h in (digit_has a i (omega (arith, z, e, digit_lt a i)), digit_has b i (omega (arith, z, e, digit_lt b i))),
  λ h. let p = has_digit a i h.0 in let q = has_digit b i h.1 in digit_has (bit_and a b) i (omega (arith, e, p, q)),
)
  where
    e : digit (bit_and a b) i ≡ min (digit a i) (digit b i)
    e = rw (and_shr a b i) (low_and (a / 2 ^ i) (b / 2 ^ i))

pub or_members : (a b i : ℕ) → So (has (bit_or a b) i) ↔ (So (has a i) ⊎ So (has b i))
or_members a b i = (
  λ h. let z = has_digit (bit_or a b) i h in elim (dec_le 1 (digit a i)) [
    | yes q ↦ inl (digit_has a i (omega (arith, digit_lt a i)))
    | no q ↦ inr (digit_has b i (omega (arith, z, e)))
  ],
  λ h. digit_has (bit_or a b) i (elim h [
    | inl u ↦ (let p = has_digit a i u in omega (arith, e, p, digit_lt b i))
    | inr u ↦ (let p = has_digit b i u in omega (arith, e, p, digit_lt a i))
  ]),
)
  where
    e : digit (bit_or a b) i ≡ max (digit a i) (digit b i)
    e = rw (or_shr a b i) (low_or (a / 2 ^ i) (b / 2 ^ i))

pub has_or : (a b i : ℕ) → has (bit_or a b) i ≡ (has a i || has b i)
has_or a b i = same_test _ _ (λ u. (or↔ (has a i) (has b i)).1 ((or_members a b i).0 u))
    (λ u. (or_members a b i).1 ((or↔ (has a i) (has b i)).0 u))

pub set_of_cong : (k : ℕ) (p q : ℕ → Bool) → ((i : ℕ) → i < k → p i ≡ q i) → set_of k p ≡ set_of k q
set_of_cong k p q h = set_ext (set_of k p) (set_of k q)
    (λ i u. let w = (set_of↔ k p i).0 u in (set_of↔ k q i).1 (w.0, sym (h i w.0) ∙ w.1))
    (λ i u. let w = (set_of↔ k q i).0 u in (set_of↔ k p i).1 (w.0, h i w.0 ∙ w.1))

pub or_set_of : (k : ℕ) (p q : ℕ → Bool) → bit_or (set_of k p) (set_of k q) ≡ set_of k (λ i. p i || q i)
or_set_of k p q = set_ext _ _
    (λ i u. elim ((or_members (set_of k p) (set_of k q) i).0 u) [
      | inl v ↦ (let w = (set_of↔ k p i).0 v in (set_of↔ k (λ i. p i || q i) i).1 (w.0, or_l _ _ w.1))
      | inr v ↦ (let w = (set_of↔ k q i).0 v in (set_of↔ k (λ i. p i || q i) i).1 (w.0, or_r (p i) _ w.1))
    ])
    (λ i u. let w = (set_of↔ k (λ i. p i || q i) i).0 u in (or_members (set_of k p) (set_of k q) i).1 (elim (or_cases (p i) (q i) w.1) [
      | inl v ↦ inl ((set_of↔ k p i).1 (w.0, v))
      | inr v ↦ inr ((set_of↔ k q i).1 (w.0, v))
    ]))

pub within↔ : (a b : ℕ) → So (within a b) ↔ ((i : ℕ) → So (has a i) → So (has b i))
unfolding within
within↔ a b = (
  λ h i u. ((and_members a b i).0 (subst (λ n. So (has n i)) (sym (so_eqb (bit_and a b) a h)) u)).1,
  λ h. (eqb↔ (bit_and a b) a).1 (set_ext (bit_and a b) a (λ i u. ((and_members a b i).0 u).0) (λ i u. (and_members a b i).1 (u, h i u))),
)

half_pow : (k i : ℕ) → has (2 ^ suc k) (suc i) ≡ has (2 ^ k) i
half_pow k i = has_suc (2 ^ suc k) i ∙ ap (λ n. has n i) (let z : 2 ^ suc k / 2 ≡ 2 ^ k = omega arith in z)

single_out : (k i : ℕ) → So (has (2 ^ k) i) → i ≡ k
single_out zero zero h = refl
single_out zero (suc i) h = absurd (no_member i (sym (has_suc 1 i) ∙ h))
single_out (suc k) zero h = absurd (omega (arith, has_digit (2 ^ suc k) 0 h, digit_first (2 ^ suc k)))
single_out (suc k) (suc i) h = ap suc (single_out k i (sym (half_pow k i) ∙ h))

single_in : (k : ℕ) → So (has (2 ^ k) k)
single_in k = digit_has (2 ^ k) k (ap (λ (x : ℕ). x % 2) (div_self (pow_pos k)))

pub single↔ : (k i : ℕ) → So (has (2 ^ k) i) ↔ (i ≡ k)
single↔ k i = (single_out k i, λ e. rw e (single_in k))

pub with↔ : (n i j : ℕ) → So (has (with n i) j) ↔ (So (has n j) ⊎ (j ≡ i))
unfolding with
with↔ n i j = (
  λ h. elim ((or_members n (2 ^ i) j).0 h) [ inl u ↦ inl u | inr u ↦ inr ((single↔ i j).0 u) ],
  λ h. (or_members n (2 ^ i) j).1 (elim h [ inl u ↦ inl u | inr u ↦ inr ((single↔ i j).1 u) ]),
)

pub ruleset sets = (nonempty↔, narrow↔, within↔, with↔, set_of↔)
