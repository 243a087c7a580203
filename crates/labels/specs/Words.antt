-- A label by its words, for the code: one word of 32 literals, the opposites in a word, and the entries of a label in one word.
use Rattle.std.specs.Prelude.{ℕ, zero, suc, ◌+◌, ◌-◌, ◌*◌, ◌/◌, ◌%◌, ◌^◌, ◌<◌, ◌≤◌, ◌≡◌, refl, ◌↔◌, Bool, not, cond, ◌&&◌}
use Rattle.std.proofs.Math.Path.{sym, ap}
use Rattle.std.proofs.Common.{◌∙◌, ap₂, subst, div-one, pow_mono, shr-shr}
use Rattle.std.proofs.Math.Logic.{inl, inr}
use Rattle.std.proofs.Math.Logic.Iff
use native.Mathlib.Omega.{arith}
use Rattle.std.proofs.Math.Decide.{dec_lt}
use Rattle.std.proofs.Math.Nat.{div-eq_of_lt}
use Rattle.std.specs.Int.Bits.{bit_and, bit_or}
use Rattle.std.proofs.lemmas.Nat.{and_le_r}
use Rattle.std.proofs.Math.Dec.{eqb}
use Rattle.std.proofs.Math.Pow.{high as high_word_lem}
use Rattle.logic.specs.Tests.{So, ◌⇒◌, so_and, and_l, and_r, so_not, not_so, so_eqb, same_test, eqb↔, imp↔, not↔}
use Rattle.logic.specs.Bounded.{all_below, any_below, all_intro, all_elim, any_intro, any_elim}
use Rattle.logic.specs.Sets.{has}
use Rattle.logic.specs.SetLaws.{has_suc, has_lt, no_member, some_member, and_members, or_members}
use Rattle.labels.specs.Blocks.{block, has_low, has_high}

-- ---- words of 32 literals
-- word k of a set: its members from 32k on, counted from there
abbrev pub word_of : ℕ → ℕ → ℕ
word_of N k = N / 2 ^ (32 * k) % 2 ^ 32

-- a set has a number exactly if the number's own word has it
pub has_own : (N l : ℕ) → has (word_of N (l / 32)) (l % 32) ≡ has N l
unfolding has
has_own N l = has_low (l % 32) 32 (N / 2 ^ (32 * (l / 32)) / 2 ^ 32) (word_of N (l / 32)) (omega arith)
    ∙ ap (λ n. has n (l % 32)) (let z : block 32 (N / 2 ^ (32 * (l / 32)) / 2 ^ 32) (word_of N (l / 32)) ≡ N / 2 ^ (32 * (l / 32)) = omega arith in z)
    ∙ ap (λ (n : ℕ). eqb (n % 2) 1) (shr-shr N (32 * (l / 32)) (l % 32))
    ∙ ap (λ (i : ℕ). eqb (N / 2 ^ i % 2) 1) (let z : 32 * (l / 32) + l % 32 ≡ l = omega arith in z)

-- the word that has entry e, with the entry in front: for a walk over the entries
abbrev pub rest_at : ℕ → ℕ → ℕ
rest_at N e = word_of N (e / 16) / 2 ^ (2 * (e % 16))

pub rest_front : (N e : ℕ) → eqb (rest_at N e % 2) 1 ≡ has N (2 * e)
unfolding has
rest_front N e = let p : e / 16 ≡ 2 * e / 32 = omega arith in let q : 2 * (e % 16) ≡ 2 * e % 32 = omega arith in
    rw (p, q) (has_own N (2 * e))

pub rest_first : (N e : ℕ) → e % 16 ≡ 0 → word_of N (e / 16) ≡ rest_at N e
rest_first N e h = rw h (sym (div-one (word_of N (e / 16))))

pub rest_next : (N e rest : ℕ) → (e % 16 ≡ 0 → ⊥) → (0 < e → rest ≡ rest_at N (e - 1)) → rest / 4 ≡ rest_at N e
rest_next N e rest h f = let l : 0 < e = omega arith in
    let p : (e - 1) / 16 ≡ e / 16 = omega arith in let q : 2 * ((e - 1) % 16) + 2 ≡ 2 * (e % 16) = omega arith in
    ap (λ n. n / 4) (f l) ∙ shr-shr (word_of N ((e - 1) / 16)) (2 * ((e - 1) % 16)) 2 ∙ rw (p, q) refl

-- the words of a word of 64 digits, and of two such words
pub word_first : (x : ℕ) → x % 4294967296 ≡ word_of x 0
word_first x = ap (λ (n : ℕ). n % 2 ^ 32) (sym (div-one x))

pub word_second : (x : ℕ) → x < 2 ^ 64 → x / 4294967296 ≡ word_of x 1
word_second x h = omega arith

pub word_past : (x k : ℕ) → x < 2 ^ 64 → 2 ≤ k → 0 ≡ word_of x k
word_past x k h g = ap (λ (n : ℕ). n % 2 ^ 32) (sym (div-eq_of_lt (let q : 64 ≤ 32 * k = omega arith in let w : 2 ^ 64 ≤ 2 ^ (32 * k) = pow_mono q in omega arith)))

pub word_low : (hi lo k : ℕ) → lo < 2 ^ 64 → k < 2 → word_of lo k ≡ word_of (block 64 hi lo) k
word_low hi lo zero h g = sym (word_first lo) ∙ (let z : lo % 4294967296 ≡ block 64 hi lo % 4294967296 = omega arith in z) ∙ word_first (block 64 hi lo)
word_low hi lo (suc zero) h g = omega arith
word_low hi lo (suc (suc k)) h g = absurd (omega arith)

pub word_high : (hi lo k : ℕ) → lo < 2 ^ 64 → 2 ≤ k → word_of hi (k - 2) ≡ word_of (block 64 hi lo) k
word_high hi lo k h g = ap (λ (n : ℕ). n / 2 ^ (32 * (k - 2)) % 2 ^ 32) (sym (high_word_lem hi 64 h)) ∙ ap (λ (n : ℕ). n % 2 ^ 32) (shr-shr (block 64 hi lo) 64 (32 * (k - 2)))
    ∙ ap (λ (i : ℕ). block 64 hi lo / 2 ^ i % 2 ^ 32) (let z : 64 + 32 * (k - 2) ≡ 32 * k = omega arith in z)

-- ---- sets that meet: some number is in both
unfoldable pub meet : ℕ → ℕ → Bool
meet a b = not (eqb (bit_and a b) 0)

pub meet↔ : (a b : ℕ) → So (meet a b) ↔ ((i : ℕ) × (So (has a i) × So (has b i)))
unfolding meet
meet↔ a b = (out, back)
  where
    out : So (meet a b) → (i : ℕ) × (So (has a i) × So (has b i))
    out u = let w = some_member (bit_and a b) (elim (dec_lt 0 (bit_and a b)) [
      | yes h ↦ h
      | no h ↦ absurd (not_so _ u ((eqb↔ (bit_and a b) 0).1 (omega arith)))
    ]) in (w.0, (and_members a b w.0).0 w.1)

    back : (i : ℕ) × (So (has a i) × So (has b i)) → So (meet a b)
    back w = so_not _ (λ u. no_member w.0 (rw (so_eqb (bit_and a b) 0 u) at ((and_members a b w.0).1 w.1)))

-- ---- the even numbers below 64, as a set
abbrev evens : ℕ
evens = 6148914691236517205

evens_in : So (all_below 32 (λ e. has evens (2 * e)))
unfolding all_below has
evens_in = refl

evens_even : So (all_below 64 (λ i. has evens i ⇒ eqb (i % 2) 0))
unfolding all_below has
evens_even = refl

even↔ : (i : ℕ) → So (has evens i) ↔ ((i < 64) × (i % 2 ≡ 0))
even↔ i = (
  λ u. let l = has_lt 64 evens i (omega arith) u in (l, so_eqb (i % 2) 0 ((imp↔ _ _).0 (all_elim 64 _ evens_even i l) u)),
  λ h. let p = h.0 in let q = h.1 in let z : 2 * (i / 2) ≡ i = omega arith in subst (λ k. So (has evens k)) z (all_elim 32 _ evens_in (i / 2) (omega arith)),
)

-- ---- no literal with its opposite, by words
-- entry e and its complement are not both in the label N
abbrev pub unopposed : ℕ → ℕ → Bool
unopposed N e = has N (2 * e) ⇒ not (has N (2 * e + 1))

-- where the even numbers are in a set of 64 with the next number
pub word_apart : (x : ℕ) → eqb (bit_and (bit_and x (x / 2)) evens) 0 ≡ all_below 32 (unopposed x)
word_apart x = same_test _ _ there back
  where
    met : (i : ℕ) → So (has (bit_and (bit_and x (x / 2)) evens) i) ↔ ((So (has x i) × So (has x (suc i))) × So (has evens i))
    met i = simp (and_members, has_suc) Iff.rfl

    there : So (eqb (bit_and (bit_and x (x / 2)) evens) 0) → So (all_below 32 (unopposed x))
    there u = all_intro 32 (unopposed x) (λ e l. (imp↔ (has x (2 * e)) _).1 (λ p. (not↔ (has x (2 * e + 1))).1 (λ q.
        let z : 2 * e + 1 ≡ suc (2 * e) = omega arith in
        no_member (2 * e) (subst (λ n. So (has n (2 * e))) (so_eqb _ 0 u) ((met (2 * e)).1 ((p, subst (λ k. So (has x k)) z q), (even↔ (2 * e)).1 (omega arith, omega arith)))))))

    back : So (all_below 32 (unopposed x)) → So (eqb (bit_and (bit_and x (x / 2)) evens) 0)
    back u = elim (dec_lt 0 (bit_and (bit_and x (x / 2)) evens)) [
      | yes p ↦ absurd (clash (some_member _ p))
      | no p ↦ let z : bit_and (bit_and x (x / 2)) evens ≡ 0 = omega arith in (eqb↔ _ 0).1 z
    ]
      where
        clash : (i : ℕ) × So (has (bit_and (bit_and x (x / 2)) evens) i) → ⊥
        clash w = let i = w.0 in let m = (met i).0 w.1 in let l = (even↔ i).0 m.1 in
            let e : 2 * (i / 2) ≡ i = omega arith in let f : 2 * (i / 2) + 1 ≡ suc i = omega arith in
            (not↔ (has x (2 * (i / 2) + 1))).0
            ((imp↔ (has x (2 * (i / 2))) _).0 (all_elim 32 (unopposed x) u (i / 2) (omega arith)) (subst (λ k. So (has x k)) (sym e) m.0.0))
            (subst (λ k. So (has x k)) (sym f) m.0.1)

-- of two words, of 2k digits each
module _ (k hi lo : ℕ) (h : lo < 2 ^ (2 * k)) where
  low : (e : ℕ) → e < k → unopposed lo e ≡ unopposed (block (2 * k) hi lo) e
  low e l = ap₂ (λ a b. a ⇒ not b) (has_low (2 * e) (2 * k) hi lo (omega arith)) (has_low (2 * e + 1) (2 * k) hi lo (omega arith))

  high : (e : ℕ) → k ≤ e → unopposed hi (e - k) ≡ unopposed (block (2 * k) hi lo) e
  high e l = let y : 2 * (e - k) ≡ 2 * e - 2 * k = omega arith in let z : 2 * (e - k) + 1 ≡ 2 * e + 1 - 2 * k = omega arith in
      ap₂ (λ a b. a ⇒ not b) (ap (has hi) y ∙ has_high (2 * k) hi lo (2 * e) h (omega arith)) (ap (has hi) z ∙ has_high (2 * k) hi lo (2 * e + 1) h (omega arith))

  pub words_apart : (all_below k (unopposed lo) && all_below k (unopposed hi)) ≡ all_below (k + k) (unopposed (block (2 * k) hi lo))
  words_apart = same_test _ _
      (λ u. all_intro (k + k) _ (λ e l. elim (dec_lt e k) [
        | yes p ↦ subst So (low e p) (all_elim k (unopposed lo) (and_l _ _ u) e p)
        | no p ↦ subst So (high e (omega arith)) (all_elim k (unopposed hi) (and_r (all_below k (unopposed lo)) _ u) (e - k) (omega arith))
      ]))
      (λ u. so_and _ _ (all_intro k (unopposed lo) (λ e l. subst So (sym (low e l)) (all_elim (k + k) _ u e (omega arith))))
      (all_intro k (unopposed hi) (λ e l. let z : e + k - k ≡ e = omega arith in
      subst (λ k. So (unopposed hi k)) z (subst So (sym (high (e + k) (omega arith))) (all_elim (k + k) _ u (e + k) (omega arith))))))

-- ---- the entries of a label, in one word
-- the entries below 32 of a label of 128 literals as the even numbers, the others as the odd ones
unfoldable pub entries_of : ℕ → ℕ
entries_of N = bit_or (bit_and (N % 2 ^ 64) evens) (block 1 (bit_and (N / 2 ^ 64) evens) 0)

-- the literal that a place stands for
abbrev literal_at : ℕ → ℕ
literal_at i = cond (eqb (i % 2) 0) i (63 + i)

module _ (N : ℕ) where
  lower_has : (i : ℕ) → i < 64 → has (N % 2 ^ 64) i ≡ has N i
  lower_has i h = has_low i 64 (N / 2 ^ 64) (N % 2 ^ 64) h ∙ ap (λ n. has n i) (let z : block 64 (N / 2 ^ 64) (N % 2 ^ 64) ≡ N = omega arith in z)

  upper_has : (i : ℕ) → has (N / 2 ^ 64) i ≡ has N (64 + i)
  unfolding has
  upper_has i = ap (λ (n : ℕ). eqb (n % 2) 1) (shr-shr N 64 i)

  -- what is shifted by one has no even number of the mask
  shifted↔ : (i : ℕ) → So (has (block 1 (bit_and (N / 2 ^ 64) evens) 0) i) ↔ ((i < 64) × ((i % 2 ≡ 1) × So (has N (63 + i))))
  shifted↔ zero = (λ u. absurd (no_member 0 (has_low 0 1 (bit_and (N / 2 ^ 64) evens) 0 (omega arith) ∙ u)), λ w. absurd (let z = w.1.0 in omega arith))
  shifted↔ (suc j) = (
    λ u. let m = (and_members (N / 2 ^ 64) evens j).0 (subst (λ k. So (has (bit_and (N / 2 ^ 64) evens) k)) back (shift ∙ u)) in let e = (even↔ j).0 m.1 in
        (omega arith, (omega arith, subst (λ k. So (has N k)) next (sym (upper_has j) ∙ m.0))),
    λ w. let p = w.0 in let q = w.1.0 in let even : (j < 64) × (j % 2 ≡ 0) = (omega arith, omega arith) in
        sym shift ∙ subst (λ k. So (has (bit_and (N / 2 ^ 64) evens) k)) (sym back) ((and_members (N / 2 ^ 64) evens j).1 (upper_has j ∙ subst (λ k. So (has N k)) (sym next) w.1.1, (even↔ j).1 even)),
  )
    where
      back : suc j - 1 ≡ j
      back = omega arith

      next : 64 + j ≡ 63 + suc j
      next = omega arith

      shift : has (bit_and (N / 2 ^ 64) evens) (suc j - 1) ≡ has (block 1 (bit_and (N / 2 ^ 64) evens) 0) (suc j)
      shift = has_high 1 (bit_and (N / 2 ^ 64) evens) 0 (suc j) (omega arith) (omega arith)

  abbrev lower_part : ℕ
  lower_part = bit_and (N % 2 ^ 64) evens

  abbrev upper_part : ℕ
  upper_part = block 1 (bit_and (N / 2 ^ 64) evens) 0

  entry↔ : (i : ℕ) → So (has (entries_of N) i) ↔ ((i < 64) × So (has N (literal_at i)))
  unfolding entries_of
  entry↔ i = elim (dec_lt (i % 2) 1) [
    | yes h ↦ (let e : i % 2 ≡ 0 = omega arith in rw e (
      λ u. elim ((or_members lower_part upper_part i).0 u) [
        | inl v ↦ (let m = (and_members (N % 2 ^ 64) evens i).0 v in let l = ((even↔ i).0 m.1).0 in (l, sym (lower_has i l) ∙ m.0))
        | inr v ↦ absurd (let z = ((shifted↔ i).0 v).1.0 in omega arith)
      ],
      λ w. (or_members lower_part upper_part i).1 (inl ((and_members (N % 2 ^ 64) evens i).1 (lower_has i w.0 ∙ w.1, (even↔ i).1 (w.0, e)))),
    ))
    | no h ↦ (let e : i % 2 ≡ 1 = omega arith in rw e (
      λ u. elim ((or_members lower_part upper_part i).0 u) [
        | inl v ↦ absurd (let z = ((even↔ i).0 ((and_members (N % 2 ^ 64) evens i).0 v).1).1 in omega arith)
        | inr v ↦ (let m = (shifted↔ i).0 v in (m.0, m.1.1))
      ],
      λ w. (or_members lower_part upper_part i).1 (inr ((shifted↔ i).1 (w.0, (e, w.1)))),
    ))
  ]

-- two labels have an entry in common exactly if these words meet
pub entries_meet : (A B : ℕ) → meet (entries_of A) (entries_of B) ≡ any_below 64 (λ e. has A (2 * e) && has B (2 * e))
entries_meet A B = same_test _ _
    (λ u. let w = (meet↔ (entries_of A) (entries_of B)).0 u in let p = (entry↔ A w.0).0 w.1.0 in let q = (entry↔ B w.0).0 w.1.1 in
    let o = in_order w.0 p.0 in any_intro 64 _ o.0 o.1 (so_and (has A (2 * o.0)) _ (rw o.2 p.1) (rw o.2 q.1)))
    (λ u. let w = any_elim 64 (λ e. has A (2 * e) && has B (2 * e)) u in let o = placed w.0 w.1 in
    (meet↔ (entries_of A) (entries_of B)).1 (
      o.0,
      (
        (entry↔ A o.0).1 (o.1, rw o.2 (and_l (has A (2 * w.0)) _ w.2)),
        (entry↔ B o.0).1 (o.1, rw o.2 (and_r (has A (2 * w.0)) _ w.2)),
      ),
    ))
  where
    in_order : (i : ℕ) → i < 64 → (e : ℕ) × (e < 64) × (2 * e ≡ literal_at i)
    in_order i h = elim (dec_lt (i % 2) 1) [
      | yes g ↦ (let z : i % 2 ≡ 0 = omega arith in (i / 2, omega arith, rw z (omega arith)))
      | no g ↦ (let z : i % 2 ≡ 1 = omega arith in ((63 + i) / 2, omega arith, rw z (omega arith)))
    ]

    placed : (e : ℕ) → e < 64 → (i : ℕ) × (i < 64) × (literal_at i ≡ 2 * e)
    placed e h = elim (dec_lt e 32) [
      | yes g ↦ (let z : 2 * e % 2 ≡ 0 = omega arith in (2 * e, omega arith, rw z refl))
      | no g ↦ (let z : (2 * e - 63) % 2 ≡ 1 = omega arith in (2 * e - 63, omega arith, rw z (omega arith)))
    ]

-- as the code makes them
pub entries_read : (hi lo : ℕ) → lo < 2 ^ 64 → bit_or (bit_and lo evens) (bit_and hi evens * 2 ^ 1 % 2 ^ 64) ≡ entries_of (block 64 hi lo)
unfolding entries_of
entries_read hi lo h = let p : block 64 hi lo % 2 ^ 64 ≡ lo = omega arith in let q : block 64 hi lo / 2 ^ 64 ≡ hi = omega arith in
    rw (p, q) (ap (bit_or (bit_and lo evens)) (omega (arith, and_le_r hi evens)))
