-- Ancestors and simple roles of a role table, as masks of 16 bits.
use Rattle.std.specs.Prelude.{ℕ, suc, ◌+◌, ◌*◌, ◌/◌, ◌%◌, ◌^◌, ◌≤◌, ◌<◌, ◌≡◌, refl, ◌⊎◌, Bool, true, false, cond, not, ◌&&◌, ◌||◌, List, eqb, length, get_or}
use Rattle.std.proofs.Math.Path.{sym, ap}
use Rattle.std.proofs.Common.{◌∙◌, subst, inl, inr, arith, mod-eq_of_lt, one-mul}
use Rattle.std.proofs.Math.Bool.{or-false}
use Rattle.std.proofs.lemmas.Bool.{false≢true}
use Rattle.std.proofs.Math.Option.{Option}
use Rattle.std.specs.Int.Bits.{bit_or}
use Rattle.std.proofs.Math.Numerals.{add-one}
use Rattle.std.proofs.Math.Pow.{pow-lt}
use Rattle.logic.specs.Tests.{So, or_l, or_r, or_cases, so_eqb, so_not, not_so, eqb↔, not_not, same_test}
use Rattle.logic.specs.Bounded.{all_below, any_below, any_intro, any_elim, any_cong, all_elim, all_not}
use Rattle.logic.specs.Closure.{closure, closure_own}
use Rattle.logic.specs.Sets.{has, with, set_of}
use Rattle.logic.specs.SetLaws.{has_lt, with↔, set_of↔, set_of_cong, or_set_of, has_set_of, set_ext, no_member}
use Rattle.parts.specs.Numbers.{byte_at, num2, up_to, up_to_all}
use Rattle.description.specs.Descriptions.{Description, included}
use Rattle.description.specs.Roles.{ancestor, simple}
use Rattle.tables.specs.Tables.{describe}

-- the ancestors of role i as a mask
abbrev pub ancestor_mask : Description → ℕ → ℕ
ancestor_mask D i = set_of 16 (ancestor D i)

-- the roles that are not simple, as a mask
abbrev pub complex_mask : Description → ℕ
complex_mask D = set_of 16 (λ s. not (simple D s))

-- ---- what the code computes, for role parts of every length
-- the number of roles of the part rs, at most 16
abbrev pub role_count : List ℕ → ℕ
role_count rs = up_to 16 (length rs / 3)

-- role i is role j or names it as a parent
abbrev own : List ℕ → ℕ → ℕ → Bool
own rs i j = eqb i j || has (num2 rs (3 * i + 1)) j

-- the mask of role i with stops below k allowed
abbrev pub passed : List ℕ → ℕ → ℕ → ℕ
passed rs k i = set_of 16 (closure k (own rs) i)

-- the table a holds, for each role, all that are reached with its roles as stops
abbrev pub AncestorsOf : List ℕ → List ℕ → Type 0
AncestorsOf rs a = (i : ℕ) → i < 16 → get_or a i 0 ≡ passed rs (role_count rs) i

-- the roles that the table a gives as ancestors of a transitive role below n
abbrev pub above_transitive : List ℕ → List ℕ → ℕ → ℕ
above_transitive rs a n = set_of 16 (λ s. any_below n (λ t. eqb (byte_at rs (3 * t)) 1 && has (get_or a t 0) s))

-- a mask joined with the mask y, where it holds k
abbrev pub joined : ℕ → ℕ → ℕ → ℕ
joined x y k = cond (has x k) (bit_or x y) x

-- ---- laws for the code
-- a mask is the set of its members
own_members : (x : ℕ) → x < 65536 → set_of 16 (has x) ≡ x
own_members x h = set_ext (set_of 16 (has x)) x (λ i u. ((set_of↔ 16 (has x) i).0 u).1) (λ i u. (set_of↔ 16 (has x) i).1 (has_lt 16 x i h u, u))

pub own_is : (rs : List ℕ) (i m : ℕ) → m < 65536 → i < 16 → m ≡ num2 rs (3 * i + 1) → bit_or m (1 * 2 ^ i % 65536) ≡ passed rs 0 i
unfolding closure with
own_is rs i m h l e = ap (bit_or m) bit ∙ set_ext (with m i) (set_of 16 (own rs i))
    (λ j u. (set_of↔ 16 (own rs i) j).1 (small j u, member j ((with↔ m i j).0 u)))
    (λ j u. (with↔ m i j).1 (back j (or_cases (eqb i j) _ ((set_of↔ 16 (own rs i) j).0 u).1)))
  where
    bit : 1 * 2 ^ i % 65536 ≡ 2 ^ i
    bit = rw one-mul (mod-eq_of_lt (pow-lt {j = 16} l))

    small : (j : ℕ) → So (has (with m i) j) → j < 16
    small j u = elim ((with↔ m i j).0 u) [ inl v ↦ has_lt 16 m j h v | inr q ↦ omega arith ]

    member : (j : ℕ) → So (has m j) ⊎ (j ≡ i) → So (own rs i j)
    member j (inl v) = or_r (eqb i j) _ (subst (λ n. So (has n j)) e v)
    member j (inr q) = or_l _ _ ((eqb↔ i j).1 (sym q))

    back : (j : ℕ) → So (eqb i j) ⊎ So (has (num2 rs (3 * i + 1)) j) → So (has m j) ⊎ (j ≡ i)
    back j (inl v) = inr (sym (so_eqb i j v))
    back j (inr v) = inl (subst (λ n. So (has n j)) (sym e) v)

-- one pass lets k be a stop
joined_passed : (rs : List ℕ) (k i : ℕ) → k < 16 → joined (passed rs k i) (passed rs k k) k ≡ passed rs (suc k) i
unfolding closure
joined_passed rs k i h = rw (has_set_of 16 (closure k (own rs) i) k h) (go (closure k (own rs) i k) refl)
  where
    go : (b : Bool) → closure k (own rs) i k ≡ b
        → cond b (bit_or (passed rs k i) (passed rs k k)) (passed rs k i) ≡ set_of 16 (λ j. closure k (own rs) i j || (closure k (own rs) i k && closure k (own rs) k j))
    go true e = or_set_of 16 (closure k (own rs) i) (closure k (own rs) k) ∙ set_of_cong 16 _ _ (λ j _. rw e refl)
    go false e = set_of_cong 16 _ _ (λ j _. rw e (sym (or-false (closure k (own rs) i j))))

pub pass_on : (rs : List ℕ) (k m x y : ℕ) → k < 16 → x ≡ passed rs k m → y ≡ passed rs k k → joined x y k ≡ passed rs (k + 1) m
pass_on rs k m x y h p q = rw (p, q, add-one k) (joined_passed rs k m h)

-- of at most 16 roles, the masks are the ancestors
pub ancestor_masks : (rs cs qs : List ℕ) (p : Option (List ℕ)) (a : List ℕ) → AncestorsOf rs a → length rs / 3 ≤ 16 → (i : ℕ) → i < 16 → get_or a i 0 ≡ ancestor_mask (describe rs cs qs p) i
unfolding ancestor
ancestor_masks rs cs qs p a h few i l = h i l ∙ rw (up_to_all 16 (length rs / 3) few) (set_of_cong 16 _ _ (λ j _. closure_own (length rs / 3) (included (describe rs cs qs p)) i j))

-- ---- roles that are not simple: the ancestors of the transitive ones
module _ (rs a : List ℕ) where
  pub above_none : 0 ≡ above_transitive rs a 0
  unfolding any_below
  above_none = sym (set_ext (above_transitive rs a 0) 0 (λ i u. absurd (false≢true ((set_of↔ 16 _ i).0 u).1)) (λ i u. absurd (no_member i u)))

  -- one transitive role more
  joins : (t x anc : ℕ) → x ≡ above_transitive rs a t → anc ≡ get_or a t 0 → anc < 65536 → So (eqb (byte_at rs (3 * t)) 1) → bit_or x anc ≡ above_transitive rs a (t + 1)
  unfolding any_below
  joins t x anc e q h b = rw (e, ← own_members anc h, add-one t) (or_set_of 16 _ (has anc) ∙ set_of_cong 16 _ _ (λ s _. rw (b, q) refl))

  stays : (t x : ℕ) → x ≡ above_transitive rs a t → eqb (byte_at rs (3 * t)) 1 ≡ false → x ≡ above_transitive rs a (t + 1)
  unfolding any_below
  stays t x e b = rw (add-one t) (e ∙ set_of_cong 16 _ _ (λ s _. rw b (sym (or-false _))))

  pub above_next : (t x anc byte new : ℕ) → x ≡ above_transitive rs a t → anc ≡ get_or a t 0 → anc < 65536 → byte ≡ byte_at rs (3 * t)
      → new ≡ cond (eqb byte 1) (bit_or x anc) x → new ≡ above_transitive rs a (t + 1)
  above_next t x anc byte new p q h b e = e ∙ rw b (go (eqb (byte_at rs (3 * t)) 1) refl)
    where
      go : (c : Bool) → eqb (byte_at rs (3 * t)) 1 ≡ c → cond c (bit_or x anc) x ≡ above_transitive rs a (t + 1)
      go true z = joins t x anc p q h z
      go false z = stays t x p z

  -- of at most 16 roles, they are those that are not simple
  pub not_simple : (cs qs : List ℕ) (p : Option (List ℕ)) → AncestorsOf rs a → length rs / 3 ≤ 16 → above_transitive rs a (role_count rs) ≡ complex_mask (describe rs cs qs p)
  unfolding simple
  not_simple cs qs p anc few = rw (up_to_all 16 (length rs / 3) few) (set_of_cong 16 _ _ (λ s l. any_cong n _ _ (λ t h. ap (λ m. D.transitive t && has m s) (ancestor_masks rs cs qs p a anc few t (omega arith))
      ∙ ap (λ b. D.transitive t && b) (has_set_of 16 (ancestor D t) s l)) ∙ some_above s))
    where
      D : Description
      D = describe rs cs qs p

      n : ℕ
      n = length rs / 3

      above : ℕ → ℕ → Bool
      above s t = D.transitive t && ancestor D t s

      some_above : (s : ℕ) → any_below n (above s) ≡ not (all_below n (λ t. not (above s t)))
      some_above s = same_test _ _
          (λ u. so_not (all_below n (λ t. not (above s t))) (λ h. let w = any_elim n (above s) u in not_so _ (all_elim n _ h w.0 w.1) w.2))
          (λ u. let w = all_not n (λ t. not (above s t)) (not_so _ u) in any_intro n (above s) w.0 w.1 (sym (not_not _) ∙ w.2))
