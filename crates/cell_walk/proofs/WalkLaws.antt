-- Laws for the code of the walk over cells.
use Rattle.std.specs.Prelude.{ℕ, zero, suc, ◌+◌, ◌-◌, ◌^◌, ◌≤◌, ◌<◌, ◌≡◌, Bool, true, false, cond, not, ◌&&◌, ◌||◌, List, eqb, leb, ltb, length, get_or, set, replicate}
use Rattle.std.proofs.Math.Path.{refl, fun_ext}
use Rattle.std.proofs.Common.{sym, ◌∙◌, ap, subst, add-one, le-ltb, lt-ltb, length-set, get_or-set_same, get_or-set_other}
use Rattle.std.proofs.Math.Logic.{inl, inr}
use Rattle.std.proofs.Math.Bool.{or-false}
use Rattle.std.proofs.lemmas.Bool.{false≢true, lt-leb}
use native.Mathlib.Omega.{arith}
use Rattle.std.proofs.Math.Decide.{dec_lt}
use Rattle.std.specs.Int.Bits.{bit_or}
use Rattle.std.proofs.lemmas.List.{get_or-replicate}
use Rattle.logic.specs.Tests.{So, ◌⇒◌, so_and, and_l, and_r, or_l, or_r, or_cases, so_false, not_so, imp_out, same_test}
use Rattle.logic.specs.Tests.{so_eqb, so_leb, leb_so, so_ltb, ltb_so}
use Rattle.logic.specs.Bounded.{all_below, any_below, all_elim, all_intro, any_elim, any_intro, any_cong}
use Rattle.logic.specs.Sums.{sum_below}
use Rattle.logic.specs.Sets.{has}
use Rattle.logic.specs.SetLaws.{no_member, has_none, has_or}
use Rattle.cell_walk.specs.Walks.{differs, changes_to, changes_up_to, row_gives, roles_in, roles_from, Walked}
use Rattle.cell_walk.specs.Walks.{CorrectedAt, Corrected, Tally}
use Rattle.cell_walk.specs.WalkLaws.{FirstChange}

-- just one of two tests passes, as `differs` asks of two cells
abbrev apart : Bool → Bool → Bool
apart a b = cond a (not b) b

not_apart : (a b : Bool) → apart a b ≡ false → a ≡ b
not_apart true true e = refl
not_apart true false e = e
not_apart false b e = sym e

-- the rows below z are in the cell, and z is not, or is the last
abbrev pub lowest_out : ℕ → ℕ → Bool
lowest_out c z = all_below z (has c) && (not (has c z) || eqb z 5)

-- from cell c to the next just the rows up to z change
up_to_row : ℕ → ℕ → ℕ → Bool
up_to_row c z i = not (apart (differs c (suc c) i) (ltb i (suc z)))

step_ok : ℕ → ℕ → Bool
step_ok c z = lowest_out c z ⇒ (all_below 6 (up_to_row c z) && eqb (changes_to c (suc c)) (suc z))

-- one computed test for all cells that a byte can tell
steps_ok : all_below 256 (λ c. all_below 6 (step_ok c)) ≡ true
unfolding all_below step_ok up_to_row changes_to has sum_below
steps_ok = refl

pub first_change : (c z : ℕ) → c < 256 → z < 6 → So (lowest_out c z) → FirstChange c (z + 1)
unfolding step_ok up_to_row changes_up_to
first_change c z h k l = record {
  few = omega arith;
  rows = λ i m. rw (add-one c, add-one z)
      (not_apart _ _ (so_false _ (not_so _ (all_elim 6 (up_to_row c z) (and_l _ _ ok) i m))));
  count = rw (add-one c, add-one z) (ap (λ m. changes_up_to c + m) (sym (so_eqb _ _ (and_r (all_below 6 (up_to_row c z)) _ ok))));
}
  where
    ok : So (all_below 6 (up_to_row c z) && eqb (changes_to c (suc c)) (suc z))
    ok = imp_out (lowest_out c z) _ (all_elim 6 (step_ok c) (all_elim 256 (λ c. all_below 6 (step_ok c)) steps_ok c h) z k) l

-- for the loop that looks for the row z: the rows before are in the cell
pub row_out : (c z : ℕ) → ((j : ℕ) → j < z → So (has c j)) → has c z ≡ false → So (lowest_out c z)
row_out c z f e = so_and (all_below z (has c)) _ (all_intro z (has c) f) (rw e refl)

pub all_in : (c : ℕ) → ((j : ℕ) → j < 6 → So (has c j)) → So (lowest_out c 5)
all_in c f = so_and (all_below 5 (has c)) _ (all_intro 5 (has c) (λ j h. f j (omega arith))) (or_r (not (has c 5)) _ refl)

-- the count of a walk starts at cell 0, and over 63 cells it fits into a byte
pub count_start : 0 ≡ changes_up_to 0
unfolding changes_up_to
count_start = refl

fits : ℕ → Bool
fits c = leb (changes_up_to (suc c)) 120

counts_fit : all_below 63 fits ≡ true
unfolding all_below fits changes_up_to changes_to has sum_below
counts_fit = refl

pub few_changes : (c n r : ℕ) → c < 63 → n ≡ changes_up_to c → changes_up_to c + r ≡ changes_up_to (c + 1) → n + r ≤ 120
unfolding fits
few_changes c n r h e q = rw (e, q, add-one c) (so_leb (changes_up_to (suc c)) 120 (all_elim 63 fits counts_fit c h))

-- ---- the tally of a walk
-- one cell more, with its test
pub all_next : (p : ℕ → Bool) (n : ℕ) (t : Bool) → all_below n p ≡ true → t ≡ p n → t ≡ all_below (n + 1) p
unfolding all_below
all_next p n t h e = rw (add-one n, h) e

module _ {k : ℕ} {p : ℕ → Bool} {fine : Bool} {cells changes : ℕ} (T : Tally k p fine cells changes) where
  -- `fine` tells whether all cells are
  pub tally_fine : fine ≡ all_below (2 ^ k) p
  tally_fine = same_test _ _
      (λ u. subst (λ n. So (all_below n p)) (T.whole u) (sym T.here ∙ u))
      (λ u. T.here ∙ all_intro (cells + 1) p (λ i h. all_elim (2 ^ k) p u i (omega (arith, T.inside))))

  pub tally_as : (m : ℕ) (q : ℕ → Bool) → k ≡ m → ((c : ℕ) → p c ≡ q c) → Tally m q fine cells changes
  tally_as m q e f = subst (λ k. Tally k q fine cells changes) e (subst (λ (p : ℕ → Bool). Tally k p fine cells changes) (fun_ext f) T)

-- ---- the roles of the rows from one up
module _ (above : List ℕ) (t : ℕ) where
  abbrev given : ℕ → ℕ → ℕ → Bool
  given c i j = leb i j && row_gives above c t j

  -- every row is from row 0 up
  pub from_all : (c : ℕ) → roles_from above c 0 t ≡ roles_in above c t
  unfolding roles_from roles_in
  from_all c = any_cong 6 _ _ (λ j _. rw (leb_so 0 j (omega arith)) refl)

  -- no row is past the last, and none is in cell 0
  from_past : (c : ℕ) → roles_from above c 6 t ≡ false
  unfolding roles_from
  from_past c = so_false _ (λ u. let w = any_elim 6 (given c 6) u in
      let k = so_leb 6 w.0 (and_l (leb 6 w.0) _ w.2) in omega (arith, w.1))

  from_none : (i : ℕ) → roles_from above 0 i t ≡ false
  unfolding roles_from
  from_none i = so_false _ (λ u. let w = any_elim 6 (given 0 i) u in
      no_member w.0 (and_l (has 0 w.0) _ (and_r (leb i w.0) _ w.2)))

  -- those of row i, and of the rows behind it
  from_row : (c i : ℕ) → i < 6 → (roles_from above c (i + 1) t || row_gives above c t i) ≡ roles_from above c i t
  unfolding roles_from
  from_row c i h = same_test _ _
      (λ u. elim (or_cases (any_below 6 (given c (i + 1))) _ u) [
        | inl v ↦ (let w = any_elim 6 (given c (i + 1)) v in any_intro 6 (given c i) w.0 w.1 (so_and (leb i w.0) _
            (leb_so i w.0 (let k = so_leb (i + 1) w.0 (and_l (leb (i + 1) w.0) _ w.2) in omega arith))
            (and_r (leb (i + 1) w.0) _ w.2)))
        | inr v ↦ any_intro 6 (given c i) i h (so_and (leb i i) _ (leb_so i i (omega arith)) v)
      ])
      (λ u. let w = any_elim 6 (given c i) u in let j = w.0 in elim (dec_lt i j) [
        | yes k ↦ or_l (any_below 6 (given c (i + 1))) _ (any_intro 6 (given c (i + 1)) j w.1
            (so_and (leb (i + 1) j) _ (leb_so (i + 1) j (omega arith)) (and_r (leb i j) _ w.2)))
        | no k ↦ (let z : j ≡ i = let m = so_leb i j (and_l (leb i j) _ w.2) in omega arith in
            or_r (any_below 6 (given c (i + 1))) _ (subst (λ j. So (row_gives above c t j)) z (and_r (leb i j) _ w.2)))
      ])

  -- the same where no row from i up changes
  from_stays : (c d i : ℕ) → ((j : ℕ) → i ≤ j → j < 6 → differs c d j ≡ false) → roles_from above d i t ≡ roles_from above c i t
  unfolding roles_from
  from_stays c d i f = any_cong 6 _ _ (λ j m. at j m (dec_lt j i))
    where
      at : (j : ℕ) → j < 6 → Dec (j < i) → given d i j ≡ given c i j
      at j m (yes q) = rw (lt-leb i j q) refl
      at j m (no q) = rw (not_apart (has c j) (has d j) (f j (omega arith) m)) refl

-- ---- the running value
-- it starts at cell 0
pub walk_start : (above : List ℕ) → Walked above 0 (replicate 7 0)
walk_start above = record {
  size = refl;
  roles = λ i h t. rw (get_or-replicate {A = ℕ} 7 i 0 0 h) (has_none t ∙ sym (from_none above t i));
}

-- the rows from i up, of the first n
abbrev pub rows_up : ℕ → ℕ → ℕ → Bool
rows_up n i j = leb i j && ltb j n

module _ (above old : List ℕ) (c n : ℕ) (F : FirstChange c n) where
  -- the rows that change are corrected one by one, from the highest down
  pub correct_start : length old ≡ 7 → CorrectedAt above (c + 1) (rows_up n n) old old
  correct_start e = record {
    size = e;
    changed = λ j u. absurd (let a = so_leb n j (and_l (leb n j) _ u) in let b = so_ltb j n (and_r (leb n j) _ u) in omega arith);
    other = λ j f. refl;
  }

  pub correct_more : (mid : List ℕ) (i m : ℕ) (b : Bool) → i < n → b ≡ has (c + 1) i
      → m ≡ cond b (bit_or (get_or mid (i + 1) 0) (get_or above i 0)) (get_or mid (i + 1) 0)
      → CorrectedAt above (c + 1) (rows_up n (i + 1)) old mid → CorrectedAt above (c + 1) (rows_up n i) old (set mid i m)
  correct_more mid i m b h e q C = record { size = length-set mid i m ∙ C.size; changed = now; other = before }
    where
      at : (j : ℕ) → (j ≡ i → ⊥) → get_or (set mid i m) j 0 ≡ get_or mid j 0
      at j f = get_or-set_other mid i j m 0 f

      now : (j : ℕ) → So (rows_up n i j) → get_or (set mid i m) j 0
          ≡ cond (has (c + 1) j) (bit_or (get_or (set mid i m) (j + 1) 0) (get_or above j 0)) (get_or (set mid i m) (j + 1) 0)
      now j u = let a = so_leb i j (and_l (leb i j) _ u) in elim (dec_lt i j) [
        | yes l ↦ rw (at j (λ z. omega arith), at (j + 1) (λ z. omega arith))
            (C.changed j (so_and (leb (i + 1) j) _ (leb_so (i + 1) j (omega arith)) (and_r (leb i j) _ u)))
        | no l ↦ (let z : j ≡ i = omega arith in
            rw (z, at (i + 1) (λ z. omega arith), get_or-set_same mid i m 0 (omega (arith, C.size, F.few)), ← e) q)
      ]

      before : (j : ℕ) → rows_up n i j ≡ false → get_or (set mid i m) j 0 ≡ get_or old j 0
      before j f = at j (λ z. false≢true (sym f ∙ so_and (leb i j) _ (leb_so i j (omega arith)) (ltb_so j n (omega arith))))
          ∙ C.other j (so_false _ (λ u. false≢true (sym f ∙ so_and (leb i j) _
          (leb_so i j (let a = so_leb (i + 1) j (and_l (leb (i + 1) j) _ u) in omega arith)) (and_r (leb (i + 1) j) _ u))))

  -- and then all
  pub correct_done : (i : ℕ) (new : List ℕ) → i ≤ 0 → CorrectedAt above (c + 1) (rows_up n i) old new → Corrected above c (c + 1) old new
  correct_done i new z C = subst (λ (p : ℕ → Bool). CorrectedAt above (c + 1) p old new) (fun_ext rows) C
    where
      rows : (j : ℕ) → rows_up n i j ≡ (ltb j 6 && differs c (c + 1) j)
      rows j = rw (leb_so i j (omega arith)) (elim (dec_lt j 6) [
        | yes l ↦ rw (lt-ltb j 6 l, F.rows j l) refl
        | no l ↦ (let a : 6 ≤ j = omega arith in let b : n ≤ j = omega (arith, F.few) in rw (le-ltb j 6 a, le-ltb j n b) refl)
      ])

  -- corrected, it is that of the next cell
  pub walk_on : (new : List ℕ) → Corrected above c (c + 1) old new → Walked above c old → Walked above (c + 1) new
  walk_on new C W = record { size = C.size; roles = λ i h t. down (6 - i) i t (omega arith) }
    where
      past : (i t : ℕ) → i ≡ 6 → roles_from above c i t ≡ roles_from above (c + 1) i t
      past i t e = rw (e, from_past above t c, from_past above t (c + 1)) refl

      joined : (x y t : ℕ) (b : Bool) → has (cond b (bit_or x y) x) t ≡ (has x t || (b && has y t))
      joined x y t true = has_or x y t
      joined x y t false = sym (or-false (has x t))

      -- a row that changes, and one that does not
      in_row : (i : ℕ) → i < n → So (ltb i 6 && differs c (c + 1) i)
      in_row i l = let h : i < 6 = omega (arith, F.few) in so_and (ltb i 6) _ (ltb_so i 6 h) (F.rows i h ∙ lt-ltb i n l)

      out : (i : ℕ) → n ≤ i → (ltb i 6 && differs c (c + 1) i) ≡ false
      out i l = so_false _ (λ u. let h = so_ltb i 6 (and_l (ltb i 6) _ u) in
          let k = so_ltb i n (sym (F.rows i h) ∙ and_r (ltb i 6) _ u) in omega arith)

      down : (m i t : ℕ) → m + i ≡ 6 → has (get_or new i 0) t ≡ roles_from above (c + 1) i t
      down zero i t e = rw (C.other i (out i (omega (arith, F.few)))) (W.roles i (omega arith) t ∙ past i t (omega arith))
      down (suc m) i t e = elim (dec_lt i n) [
        | yes l ↦ rw (C.changed i (in_row i l)) (joined (get_or new (i + 1) 0) (get_or above i 0) t (has (c + 1) i)
            ∙ ap (λ b. b || row_gives above (c + 1) t i) (down m (i + 1) t (omega arith))
            ∙ from_row above t (c + 1) i (omega arith))
        | no l ↦ rw (C.other i (out i (omega arith)))
            (W.roles i (omega arith) t ∙ sym (from_stays above t c (c + 1) i (λ j a g. F.rows j g ∙ le-ltb j n (omega arith))))
      ]
