-- The steps of the closing: what each makes of the masks, and that together they close the roles.
use Rattle.std.specs.Prelude.{ℕ, suc, ◌+◌, ◌*◌, ◌/◌, ◌%◌, ◌≤◌, ◌<◌, ◌≡◌, ◌↔◌, ◌⊎◌, Bool, true, false, ◌&&◌, ◌||◌, List, eqb, get_or}
use Rattle.std.proofs.Math.Path.{refl, sym, ap, ap₂, subst}
use Rattle.std.proofs.Common.{◌∙◌, inl, mod-eq_of_lt, mul-le-mul, div-add-mod', div-lt_iff_lt-mul, mod-lt, zero-mul, add-one}
use Rattle.std.proofs.Math.Logic.{inr}
use Rattle.std.proofs.Math.Bool.{cond, or-false}
use Rattle.std.proofs.lemmas.Bool.{false≢true}
use native.Mathlib.Omega.{arith}
use Rattle.std.proofs.Math.Decide.{dec_lt}
use Rattle.std.proofs.Math.Nat.{mul-add-div_right, mul-add-mod_self_right, div-eq_of_lt, mul-le-mul_right}
use Rattle.std.specs.Int.Bits.{bit_and, bit_or}
use Rattle.logic.specs.Tests.{So, so_and, and_l, and_r, or_l, or_r, or_cases, so_false, same_test, so_eqb, eqb_so}
use Rattle.logic.specs.Bounded.{any_below, any_elim, any_intro}
use Rattle.logic.specs.Closure.{closure, closure_base}
use Rattle.logic.specs.Sets.{has, set_of}
use Rattle.logic.specs.SetLaws.{set_ext, no_member, has_lt, set_of_lt, set_of↔, set_of_has, set_of_cong, or_set_of, or_members, and_members}
use Rattle.parts.specs.Numbers.{num2}
use Rattle.lines.specs.Numerals.{Bytes}
use Rattle.lines.specs.Laying.{Masks}
use Rattle.lines.proofs.Laying.{laid_none, laid_rest, laid_more, laid_append, laid_as, laid_then, two_local}
use Rattle.closing.specs.Rows.{RowsLie, over_mask}
use Rattle.closing.specs.Closing.{mask_at, joined_by, closed_mask, masks_end}

-- ---- rows
-- mask i of the masks at `at`
abbrev pub mask_no : List ℕ → ℕ → ℕ → ℕ
mask_no m at i = num2 m (at + 2 * i)

-- a row lies before the next one, and all in the square
pub row_below : (x z d : ℕ) → x < z → x * d + d ≤ z * d
row_below x z d h = let k : suc x * d ≤ z * d = mul-le-mul_right d h in omega arith

pub small : (x d : ℕ) → x < 256 → d < 256 → x * d ≤ 65025
small x d h k = let a : x ≤ 255 = omega arith in let b : d ≤ 255 = omega arith in let z : x * d ≤ 255 * 255 = mul-le-mul a b in omega arith

-- rows x and k lie in the buffer
pub rows_lie : (at d x k row from n : ℕ) → x < d → k < d → masks_end at d ≤ n → row ≡ at + 2 * (x * d) → from ≡ at + 2 * (k * d)
    → RowsLie row from d n
rows_lie at d x k row from n hx hk h p q = let a = row_below x d d hx in let b = row_below k d d hk in record {
  first = omega arith;
  second = omega arith;
  apart = elim (dec_lt k x) [
    | yes l ↦ (let r = row_below k x d l in inr (omega arith))
    | no l ↦ (let r : x * d ≤ k * d = mul-le-mul_right d (omega arith) in inl (omega arith))
  ];
}

module _ (d x c : ℕ) (h : c < d) where
  row_of : (x * d + c) / d ≡ x
  row_of = mul-add-div_right (omega arith) x c ∙ (let e = div-eq_of_lt h in omega arith)

  column_of : (x * d + c) % d ≡ c
  column_of = mul-add-mod_self_right x d c ∙ mod-eq_of_lt h

-- ---- one pass
-- mask c of row x, with the roles of t that lead from x to k and on from k
abbrev pub row_mask : List ℕ → ℕ → ℕ → ℕ → ℕ → ℕ → ℕ → ℕ
row_mask m at d x k t c = bit_or (mask_no m at (x * d + c)) (bit_and (mask_no m at (k * d + c)) (bit_and (mask_no m at (x * d + k)) t))

-- the same of mask i, which is mask i % d of row i / d
unfoldable pub via_mask : List ℕ → ℕ → ℕ → ℕ → ℕ → ℕ → ℕ
via_mask m at d k t i = row_mask m at d (i / d) k t (i % d)

row_is : (l : List ℕ) (at d x k t : ℕ) (c : ℕ) → over_mask l (at + 2 * (x * d)) (at + 2 * (k * d)) k t c ≡ row_mask l at d x k t c
row_is l at d x k t c =
    let p : at + 2 * (x * d) + 2 * c ≡ at + 2 * (x * d + c) = omega arith in
    let q : at + 2 * (k * d) + 2 * c ≡ at + 2 * (k * d + c) = omega arith in
    let r : at + 2 * (x * d) + 2 * k ≡ at + 2 * (x * d + k) = omega arith in
    ap₂ bit_or (ap (num2 l) p) (ap₂ bit_and (ap (num2 l) q) (ap (λ n. bit_and (num2 l n) t) r))

absorb : (a b : ℕ) → bit_or a (bit_and a b) ≡ a
absorb a b = set_ext (bit_or a (bit_and a b)) a
    (λ i u. elim ((or_members a (bit_and a b) i).0 u) [ inl v ↦ v | inr v ↦ ((and_members a b i).0 v).0 ])
    (λ i u. (or_members a (bit_and a b) i).1 (inl u))

pub pass_start : (at d k t : ℕ) (l : List ℕ) → Masks at (via_mask l at d k t) l (0 * d) l
pass_start at d k t l = rw zero-mul (laid_none 2 num2 two_local at (via_mask l at d k t) l)

-- row k, and column k of the rows to come, are as they were
module _ (at d x k t : ℕ) (old mid new : List ℕ) (hx : x < d) (hk : k < d) (a : Masks at (via_mask old at d k t) old (x * d) mid) where
  ahead : (c : ℕ) → mask_no mid at (x * d + c) ≡ mask_no old at (x * d + c)
  ahead c = laid_rest 2 num2 two_local a (at + 2 * (x * d + c)) (inr (omega arith))

  source : (c : ℕ) → c < d → mask_no mid at (k * d + c) ≡ mask_no old at (k * d + c)
  unfolding via_mask
  source c h = elim (dec_lt k x) [
    | yes q ↦ a.numbers (k * d + c) (omega (arith, row_below k x d q))
        ∙ ap₂ (λ u v. row_mask old at d u k t v) (row_of d k c h) (column_of d k c h) ∙ absorb (mask_no old at (k * d + c)) (bit_and (mask_no old at (k * d + k)) t)
    | no q ↦ laid_rest 2 num2 two_local a (at + 2 * (k * d + c)) (let z : x * d ≤ k * d = mul-le-mul_right d (omega arith) in inr (omega arith))
  ]

  pub pass_more : (row from : ℕ) → row ≡ at + 2 * (x * d) → from ≡ at + 2 * (k * d) → Masks row (over_mask mid row from k t) mid d new
      → Masks at (via_mask old at d k t) old ((x + 1) * d) new
  unfolding via_mask
  pass_more row from p q b = let z : x * d + d ≡ (x + 1) * d = omega arith in subst (λ n. Masks at (via_mask old at d k t) old n new) z
      (laid_append 2 num2 two_local at (x * d) d (via_mask old at d k t) _ old mid new a (rw (p, q) at b)
      (λ c h. row_is mid at d x k t c ∙ ap₂ bit_or (ahead c) (ap₂ bit_and (source c h) (ap (λ n. bit_and n t) (ahead k)))
      ∙ sym (ap₂ (λ u v. row_mask old at d u k t v) (row_of d x c h) (column_of d x c h))))

-- ---- all passes
-- the roles of (x, y), those of t closed with stops below k
abbrev pub stop_at : List ℕ → ℕ → ℕ → ℕ → ℕ → ℕ → ℕ → ℕ
stop_at m at d t k x y = set_of 16 (λ r. cond (has t r) (closure k (joined_by m at d r) x y) (joined_by m at d r x y))

unfoldable pub stop_mask : List ℕ → ℕ → ℕ → ℕ → ℕ → ℕ → ℕ
stop_mask m at d t k i = stop_at m at d t k (i / d) (i % d)

-- a mask is the set of its roles
own_roles : (l : List ℕ) (at : ℕ) → Bytes l → set_of 16 (has (num2 l at)) ≡ num2 l at
own_roles l at bytes = set_of_has 16 (num2 l at) (omega (arith, bytes at, bytes (at + 1)))

whole_no : (at d i : ℕ) (m : List ℕ) → mask_at m at d (i / d) (i % d) ≡ mask_no m at i
whole_no at d i m = ap (mask_no m at) (div-add-mod' i d)

pub stop_start : (at d t : ℕ) (l : List ℕ) → Bytes l → Masks at (stop_mask l at d t 0) l (d * d) l
unfolding stop_mask closure
stop_start at d t l bytes = record {
  whole = refl;
  numbers = λ i _. sym (set_of_cong 16 _ _ (λ r _. either (has t r) (joined_by l at d r (i / d) (i % d))) ∙ own_roles l (at + 2 * (i / d * d + i % d)) bytes ∙ whole_no at d i l);
  others = λ p _. refl;
}
  where
    either : (b p : Bool) → cond b p p ≡ p
    either true p = refl
    either false p = refl

-- one stop more
stop_on : (m : List ℕ) (at d t k x y : ℕ) → bit_or (stop_at m at d t k x y) (bit_and (stop_at m at d t k k y) (bit_and (stop_at m at d t k x k) t)) ≡ stop_at m at d t (suc k) x y
unfolding closure
stop_on m at d t k x y = set_ext _ _
    (λ r u. elim ((or_members (stop_at m at d t k x y) _ r).0 u) [
      | inl v ↦ (let w = (members k x y r).0 v in (members (suc k) x y r).1 (w.0, more (has t r) _ _ _ w.1))
      | inr v ↦ (let w = (and_members (stop_at m at d t k k y) _ r).0 v in let z = (and_members (stop_at m at d t k x k) t r).0 w.1 in
          let a = (members k x k r).0 z.0 in let b = (members k k y r).0 w.0 in
          (members (suc k) x y r).1 (a.0, via (has t r) (closure k (joined_by m at d r) x y) _ _ _ _ _ z.1 a.1 b.1))
    ])
    (λ r u. let w = (members (suc k) x y r).0 u in (or_members (stop_at m at d t k x y) _ r).1 (back r w.0 (has t r) refl w.1))
  where
    members : (k x y r : ℕ) → So (has (stop_at m at d t k x y) r) ↔ ((r < 16) × So (cond (has t r) (closure k (joined_by m at d r) x y) (joined_by m at d r x y)))
    members k x y r = set_of↔ 16 (λ r. cond (has t r) (closure k (joined_by m at d r) x y) (joined_by m at d r x y)) r

    more : (b p q s : Bool) → So (cond b p s) → So (cond b (p || q) s)
    more true p q s h = or_l p q h
    more false p q s h = h

    via : (b p q s f g e : Bool) → So b → So (cond b q f) → So (cond b s g) → So (cond b (p || (q && s)) e)
    via true p q s f g e h u v = or_r p (q && s) (so_and q s u v)
    via false p q s f g e h u v = absurd (false≢true h)

    back : (r : ℕ) → r < 16 → (b : Bool) → has t r ≡ b → So (cond b (closure k (joined_by m at d r) x y || (closure k (joined_by m at d r) x k && closure k (joined_by m at d r) k y)) (joined_by m at d r x y))
        → So (has (stop_at m at d t k x y) r) ⊎ So (has (bit_and (stop_at m at d t k k y) (bit_and (stop_at m at d t k x k) t)) r)
    back r l true e h = elim (or_cases (closure k (joined_by m at d r) x y) _ h) [
      | inl v ↦ inl ((members k x y r).1 (l, rw e v))
      | inr v ↦ inr ((and_members _ _ r).1 (
        (members k k y r).1 (l, rw e (and_r (closure k (joined_by m at d r) x k) _ v)),
        (and_members _ t r).1 ((members k x k r).1 (l, rw e (and_l (closure k (joined_by m at d r) x k) _ v)), e),
      ))
    ]
    back r l false e h = inl ((members k x y r).1 (l, rw e h))

pub stop_more : (at d t k : ℕ) (old mid new : List ℕ) → k < d → Masks at (stop_mask old at d t k) old (d * d) mid
    → Masks at (via_mask mid at d k t) mid (d * d) new → Masks at (stop_mask old at d t (k + 1)) old (d * d) new
unfolding stop_mask via_mask
stop_more at d t k old mid new hk a b = laid_as 2 num2 two_local at (d * d) (via_mask mid at d k t) _ old new (laid_then 2 num2 two_local at (d * d) _ _ old mid new a b)
    (λ i h. let hx : i / d < d = (div-lt_iff_lt-mul (omega arith)).1 h in let hy : i % d < d = mod-lt i (omega arith) in
    ap₂ bit_or (stopped (i / d) (i % d) hx hy) (ap₂ bit_and (stopped k (i % d) hk hy) (ap (λ n. bit_and n t) (stopped (i / d) k hx hk))) ∙ stop_on old at d t k (i / d) (i % d)
    ∙ ap (λ n. stop_at old at d t n (i / d) (i % d)) (sym (add-one k)))
  where
    stopped : (x y : ℕ) → x < d → y < d → mask_no mid at (x * d + y) ≡ stop_at old at d t k x y
    stopped x y hx hy = a.numbers (x * d + y) (omega (arith, row_below x d d hx)) ∙ ap₂ (λ u v. stop_at old at d t k u v) (row_of d x y hy) (column_of d x y hy)

-- ---- ancestors
-- the mask c with the ancestors of its roles of t below n
unfoldable pub raised_to : ℕ → ℕ → List ℕ → ℕ → ℕ
raised_to c t a n = set_of 16 (λ r. has c r || any_below n (λ u. has t u && (has (get_or a u 0) r && has c u)))

unfoldable pub raised_mask : List ℕ → ℕ → ℕ → List ℕ → ℕ → ℕ
raised_mask m at t a i = raised_to (mask_no m at i) t a 16

and_test : (m t u : ℕ) → has (bit_and m t) u ≡ (has m u && has t u)
and_test m t u = same_test _ _ (λ h. let w = (and_members m t u).0 h in so_and (has m u) (has t u) w.0 w.1) (λ h. (and_members m t u).1 (and_l _ _ h, and_r (has m u) _ h))

pub raised_none : (m t : ℕ) (a : List ℕ) → m < 65536 → m ≡ raised_to m t a 0
unfolding raised_to any_below
raised_none m t a h = sym (set_of_cong 16 _ _ (λ r _. or-false (has m r)) ∙ set_of_has 16 m h)

-- none of its roles is in t
pub raised_same : (m t : ℕ) (a : List ℕ) → m < 65536 → bit_and m t ≡ 0 → m ≡ raised_to m t a 16
unfolding raised_to
raised_same m t a h e = sym (set_of_cong 16 _ _ (λ r _. ap (λ b. has m r || b) (so_false _ (none r)) ∙ or-false (has m r)) ∙ set_of_has 16 m h)
  where
    none : (r : ℕ) → So (any_below 16 (λ u. has t u && (has (get_or a u 0) r && has m u))) → ⊥
    none r s = let w = any_elim 16 _ s in
        no_member w.0 (subst (λ n. So (has n w.0)) e ((and_members m t w.0).1 (and_r (has (get_or a w.0 0) r) _ (and_r (has t w.0) _ w.2), and_l (has t w.0) _ w.2)))

-- one role more
pub raised_more : (m t u x anc new : ℕ) (a : List ℕ) → x ≡ raised_to m t a u → anc ≡ get_or a u 0 → anc < 65536 → new ≡ cond (has (bit_and m t) u) (bit_or x anc) x
    → new ≡ raised_to m t a (u + 1)
unfolding raised_to any_below
raised_more m t u x anc new a p q h e = e ∙ rw (p, add-one u) (choice (has (bit_and m t) u) ∙ set_of_cong 16 _ _ (λ r _. rw (and_test m t u, q) (order (has m r) _ (has m u) (has t u) (has (get_or a u 0) r))))
  where
    so_far : ℕ → Bool
    so_far r = has m r || any_below u (λ v. has t v && (has (get_or a v 0) r && has m v))

    choice : (b : Bool) → cond b (bit_or (set_of 16 so_far) anc) (set_of 16 so_far) ≡ set_of 16 (λ r. so_far r || (b && has anc r))
    choice true = ap (bit_or (set_of 16 so_far)) (sym (set_of_has 16 anc h)) ∙ or_set_of 16 so_far (has anc)
    choice false = set_of_cong 16 _ _ (λ r _. sym (or-false (so_far r)))

    turn : (b c d : Bool) → ((b && c) && d) ≡ (c && (d && b))
    turn true true true = refl
    turn true true false = refl
    turn true false d = refl
    turn false true true = refl
    turn false true false = refl
    turn false false d = refl

    order : (p q b c d : Bool) → ((p || q) || ((b && c) && d)) ≡ (p || (q || (c && (d && b))))
    order true q b c d = refl
    order false true b c d = refl
    order false false b c d = turn b c d

-- one pair more
pub raise_more : (at t i c v : ℕ) (a old mid new : List ℕ) → c ≡ num2 mid (at + 2 * i) → v ≡ raised_to c t a 16
    → Masks at (raised_mask old at t a) old i mid → Masks (at + 2 * i) (λ j. v) mid 1 new
    → Masks at (raised_mask old at t a) old (i + 1) new
unfolding raised_mask
raise_more at t i c v a old mid new e q l b = laid_more 2 num2 two_local at i v (raised_mask old at t a) old mid new l b
    (q ∙ ap (λ n. raised_to n t a 16) (e ∙ laid_rest 2 num2 two_local l (at + 2 * i) (inr (omega arith))))

-- ---- together they close the roles
pub raised_is : (m : List ℕ) (at d t : ℕ) (a : List ℕ) (x y : ℕ) → raised_to (stop_at m at d t d x y) t a 16 ≡ closed_mask m at d t a x y
unfolding raised_to closed_mask
raised_is m at d t a x y = set_of_cong 16 _ _ (λ r l. same_test _ _ (out r) (back r l))
  where
    closed : ℕ → Bool
    closed u = closure d (joined_by m at d u) x y

    held : ℕ → Bool
    held u = has (stop_at m at d t d x y) u

    from_held : (u : ℕ) → So (held u) → So (cond (has t u) (closed u) (joined_by m at d u x y))
    from_held u h = ((set_of↔ 16 (λ r. cond (has t r) (closure d (joined_by m at d r) x y) (joined_by m at d r x y)) u).0 h).1

    to_held : (u : ℕ) → u < 16 → So (cond (has t u) (closed u) (joined_by m at d u x y)) → So (held u)
    to_held u l h = (set_of↔ 16 (λ r. cond (has t r) (closure d (joined_by m at d r) x y) (joined_by m at d r x y)) u).1 (l, h)

    up : ℕ → ℕ → Bool
    up r u = has t u && ((eqb u r || has (get_or a u 0) r) && closed u)

    whole : (r u : ℕ) → So (has t u) → So (eqb u r || has (get_or a u 0) r) → So (closed u) → So (up r u)
    whole r u p q s = so_and (has t u) _ p (so_and (eqb u r || has (get_or a u 0) r) (closed u) q s)

    own : (r : ℕ) → (b : Bool) → has t r ≡ b → So (cond b (closed r) (joined_by m at d r x y)) → r < 16 → So (joined_by m at d r x y || any_below 16 (up r))
    own r true e h l = or_r (joined_by m at d r x y) _ (any_intro 16 (up r) r l (whole r r e (or_l (eqb r r) _ (eqb_so r)) h))
    own r false e h l = or_l (joined_by m at d r x y) _ h

    out : (r : ℕ) → So (held r || any_below 16 (λ u. has t u && (has (get_or a u 0) r && held u))) → So (joined_by m at d r x y || any_below 16 (up r))
    out r h = elim (or_cases (held r) _ h) [
      | inl v ↦ own r (has t r) refl (from_held r v) (has_lt 16 (stop_at m at d t d x y) r (set_of_lt 16 _) v)
      | inr v ↦ (let w = any_elim 16 _ v in let u = w.0 in let p = and_l (has t u) _ w.2 in let q = and_r (has t u) _ w.2 in
          or_r (joined_by m at d r x y) _ (any_intro 16 (up r) u w.1
          (whole r u p (or_r (eqb u r) _ (and_l (has (get_or a u 0) r) _ q)) (subst (λ b. So (cond b (closed u) (joined_by m at d u x y))) p (from_held u (and_r (has (get_or a u 0) r) _ q))))))
    ]

    direct : (r : ℕ) → r < 16 → (b : Bool) → has t r ≡ b → So (joined_by m at d r x y) → So (held r)
    direct r l true e h = to_held r l (rw e (closure_base d (joined_by m at d r) x y h))
    direct r l false e h = to_held r l (rw e h)

    back : (r : ℕ) → r < 16 → So (joined_by m at d r x y || any_below 16 (up r)) → So (held r || any_below 16 (λ u. has t u && (has (get_or a u 0) r && held u)))
    back r l h = elim (or_cases (joined_by m at d r x y) _ h) [
      | inl v ↦ or_l (held r) _ (direct r l (has t r) refl v)
      | inr v ↦ (let w = any_elim 16 (up r) v in let u = w.0 in let p = and_l (has t u) _ w.2 in let q = and_r (has t u) _ w.2 in
          let s = to_held u w.1 (rw p (and_r (eqb u r || has (get_or a u 0) r) _ q)) in
          elim (or_cases (eqb u r) _ (and_l (eqb u r || has (get_or a u 0) r) _ q)) [
            | inl z ↦ or_l (held r) _ (subst (λ n. So (held n)) (so_eqb u r z) s)
            | inr z ↦ or_r (held r) _ (any_intro 16 _ u w.1 (so_and (has t u) _ p (so_and (has (get_or a u 0) r) (held u) z s)))
          ])
    ]
