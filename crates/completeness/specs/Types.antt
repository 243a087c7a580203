-- Types: full labels, one literal of each entry. A label is derivable if every type that contains it is.
use Rattle.std.specs.Prelude.{ℕ, zero, suc, ◌+◌, ◌*◌, ◌≤◌, ◌<◌, ◌≡◌, refl, ◌↔◌, ◌⊎◌, Bool, true, false, cond, not, ◌&&◌, ◌||◌, eqb, ltb}
use Rattle.std.proofs.Common.{sym, ◌∙◌, ap, inl, inr, arith}
use Rattle.std.proofs.lemmas.Bool.{false≢true}
use Rattle.logic.specs.Tests.{So, ◌⇒◌, decide, so_and, and_l, and_r, or_l, or_r, or_cases, not_so, so_not, so_false, so_eqb, eqb_so, so_ltb, ltb_so, imp_in}
use Rattle.logic.specs.Bounded.{all_below, below, below_cases, all_intro, all_elim, all_not}
use Rattle.description.specs.Literals.{Literal, pos, neg, opposite, code, literal, literal_code, code_literal, code_entry, entry_of, Label, plus, plus↔, Within, InTable, literal_same}
use Rattle.description.specs.Descriptions.{Description}
use Rattle.completeness.specs.Derivable.{Derivable, derivable_mono, by_contradiction, by_cases}

-- the literal of entry e that the choice p picks
abbrev pub chosen : (ℕ → Bool) → ℕ → Literal
chosen p e = cond (p e) (pos e) (neg e)

-- the type of the choice p, over n entries
unfoldable pub typ : ℕ → (ℕ → Bool) → Label
typ n p (pos e) = ltb e n && p e
typ n p (neg e) = ltb e n && not (p e)

pub pos_in : (n : ℕ) (p : ℕ → Bool) (e : ℕ) → e < n → So (p e) → So (typ n p (pos e))
unfolding typ
pos_in n p e h u = so_and _ _ (ltb_so e n h) u

pub neg_in : (n : ℕ) (p : ℕ → Bool) (e : ℕ) → e < n → So (not (p e)) → So (typ n p (neg e))
unfolding typ
neg_in n p e h u = so_and _ _ (ltb_so e n h) u

pub pos_out : (n : ℕ) (p : ℕ → Bool) (e : ℕ) → So (typ n p (pos e)) → So (p e)
unfolding typ
pos_out n p e h = and_r (ltb e n) (p e) h

pub neg_out : (n : ℕ) (p : ℕ → Bool) (e : ℕ) → So (typ n p (neg e)) → So (not (p e))
unfolding typ
neg_out n p e h = and_r (ltb e n) (not (p e)) h

pub typ_in : (n : ℕ) (p : ℕ → Bool) → InTable n (typ n p)
unfolding typ
typ_in n p (pos e) h = so_ltb e n (and_l _ _ h)
typ_in n p (neg e) h = so_ltb e n (and_l _ _ h)

-- a type has each literal of the table or its opposite, and never both
pub typ_full : (n : ℕ) (p : ℕ → Bool) (l : Literal) → entry_of l < n → So (typ n p l) ⊎ So (typ n p (opposite l))
typ_full n p (pos e) h = elim (decide (p e)) [ inl u ↦ inl (pos_in n p e h u) | inr u ↦ inr (neg_in n p e h (so_not _ u)) ]
typ_full n p (neg e) h = elim (decide (p e)) [ inl u ↦ inr (pos_in n p e h u) | inr u ↦ inl (neg_in n p e h (so_not _ u)) ]

pub typ_one : (n : ℕ) (p : ℕ → Bool) (l : Literal) → So (typ n p l) → So (typ n p (opposite l)) → ⊥
typ_one n p (pos e) h k = not_so (p e) (neg_out n p e k) (pos_out n p e h)
typ_one n p (neg e) h k = not_so (p e) (neg_out n p e h) (pos_out n p e k)

pub typ_cong : (n : ℕ) (p q : ℕ → Bool) → ((e : ℕ) → e < n → p e ≡ q e) → Within (typ n p) (typ n q)
typ_cong n p q h (pos e) t = let b = typ_in n p (pos e) t in pos_in n q e b (sym (h e b) ∙ pos_out n p e t)
typ_cong n p q h (neg e) t = let b = typ_in n p (neg e) t in neg_in n q e b (ap not (sym (h e b)) ∙ neg_out n p e t)

pub chosen_in : (n : ℕ) (p : ℕ → Bool) (e : ℕ) → e < n → So (typ n p (chosen p e))
chosen_in n p e h = go (p e) refl
  where
    go : (b : Bool) → p e ≡ b → So (typ n p (cond b (pos e) (neg e)))
    go true q = pos_in n p e h q
    go false q = neg_in n p e h (ap not q)

-- ---- "lies within", as a test over the table
unfoldable pub lies : ℕ → Label → Label → Bool
lies n L M = all_below (2 * n) (λ i. L (literal i) ⇒ M (literal i))

pub lies↔ : (n : ℕ) (L M : Label) → InTable n L → So (lies n L M) ↔ Within L M
unfolding lies
lies↔ n L M t = simp below (
  λ h l u. rw (literal_code l) at (h (code l) ((code_entry l n).1 (t l u)) (rw (literal_code l) u)),
  λ h i _ u. h (literal i) u,
)

pub not_lies : (n : ℕ) (L M : Label) → (So (lies n L M) → ⊥) → (l : Literal) × (entry_of l < n) × So (L l) × (So (M l) → ⊥)
unfolding lies
not_lies n L M h =
    let r = all_not (2 * n) (λ i. L (literal i) ⇒ M (literal i)) h in
    let l = literal r.0 in
    (l, (code_entry l n).0 (rw (code_literal r.0) r.1), has (L l) (M l) r.2, λ u. not_so _ r.2 (imp_in (L l) (M l) (λ _. u)))
  where
    has : (a b : Bool) → So (not (a ⇒ b)) → So a
    has true b k = refl
    has false b k = absurd (false≢true k)

-- ---- a label is derivable if every type that contains it is
abbrev join : Label → Label → Label
join L M l = L l || M l

-- the choice p, with b at m
abbrev put : (ℕ → Bool) → ℕ → Bool → ℕ → Bool
put p m b e = cond (eqb e m) b (p e)

put_old : (p : ℕ → Bool) (m : ℕ) (b : Bool) (e : ℕ) → e < m → put p m b e ≡ p e
put_old p m b e h = ap (λ c. cond c b (p e)) (so_false (eqb e m) (λ q. let z = so_eqb e m q in omega arith))

put_new : (p : ℕ → Bool) (m : ℕ) (b : Bool) → put p m b m ≡ b
put_new p m b = ap (λ c. cond c b (p m)) (eqb_so m)

typ_suc : (m : ℕ) (p : ℕ → Bool) (b : Bool) → Within (typ (suc m) (put p m b)) (plus (typ m p) (cond b (pos m) (neg m)))
typ_suc m p b (pos e) t = elim (below_cases e m (typ_in (suc m) (put p m b) (pos e) t)) [
  | inl h ↦ or_l _ _ (pos_in m p e h (sym (put_old p m b e h) ∙ pos_out (suc m) (put p m b) e t))
  | inr h ↦ (plus↔ (typ m p) (cond b (pos m) (neg m)) (pos e)).1
      (inr (rw (h, sym (put_new p m b) ∙ ap (put p m b) (sym h) ∙ pos_out (suc m) (put p m b) e t) refl))
]
typ_suc m p b (neg e) t = elim (below_cases e m (typ_in (suc m) (put p m b) (neg e) t)) [
  | inl h ↦ or_l _ _ (neg_in m p e h (ap not (sym (put_old p m b e h)) ∙ neg_out (suc m) (put p m b) e t))
  | inr h ↦ (plus↔ (typ m p) (cond b (pos m) (neg m)) (neg e)).1
      (inr (last b (ap not (sym (put_new p m b) ∙ ap (put p m b) (sym h)) ∙ neg_out (suc m) (put p m b) e t) h))
]
  where
    last : (b : Bool) → So (not b) → e ≡ m → cond b (pos m) (neg m) ≡ neg e
    last true u h = absurd (false≢true u)
    last false u h = rw h refl

module _ (D : Description) (L : Label) (t : InTable D.entries L)
    (each : (p : ℕ → Bool) → Within L (typ D.entries p) → Derivable D (typ D.entries p)) where
  join_in : (m : ℕ) (p : ℕ → Bool) → m ≤ D.entries → InTable D.entries (join L (typ m p))
  join_in m p h l u = elim (or_cases (L l) (typ m p l) u) [ inl v ↦ t l v | inr v ↦ omega (arith, typ_in m p l v) ]

  join_suc : (m : ℕ) (p : ℕ → Bool) (b : Bool) → Within (join L (typ (suc m) (put p m b))) (plus (join L (typ m p)) (cond b (pos m) (neg m)))
  join_suc m p b l u = elim (or_cases (L l) (typ (suc m) (put p m b) l) u) [
    | inl v ↦ or_l (L l || typ m p l) _ (or_l (L l) _ v)
    | inr v ↦ elim (or_cases (typ m p l) _ (typ_suc m p b l v)) [ inl w ↦ or_l (L l || typ m p l) _ (or_r (L l) _ w) | inr w ↦ or_r (L l || typ m p l) _ w ]
  ]

  -- case splits on the entries from m up; past the last, the label is within the type or contradicts it
  resolve_from : (j m : ℕ) → m + j ≡ D.entries → (p : ℕ → Bool) → Derivable D (join L (typ m p))
  resolve_from zero m q p =
      let e : m ≡ D.entries = omega arith in
      elim (decide (lies D.entries L (typ m p))) [
        | inl u ↦ derivable_mono D (typ m p) (join L (typ m p)) (λ l h. or_r (L l) _ h) (rw e (each p (rw e at ((lies↔ D.entries L (typ m p) t).0 u))))
        | inr u ↦ let w = not_lies D.entries L (typ m p) u in
            by_contradiction D (join L (typ m p)) (join_in m p (omega arith)) w.0 (or_l _ _ w.2) (or_r (L (opposite w.0)) _
            (elim (typ_full m p w.0 (omega (arith, w.1))) [ inl v ↦ absurd (w.3 v) | inr v ↦ v ]))
      ]
  resolve_from (suc j) m q p = by_cases D (join L (typ m p)) (join_in m p (omega arith)) m (omega arith)
      (derivable_mono D _ (plus (join L (typ m p)) (pos m)) (join_suc m p true) (resolve_from j (suc m) (omega arith) (put p m true)))
      (derivable_mono D _ (plus (join L (typ m p)) (neg m)) (join_suc m p false) (resolve_from j (suc m) (omega arith) (put p m false)))

  pub resolve : Derivable D L
  resolve = derivable_mono D (join L (typ 0 (λ e. false))) L
      (λ l h. elim (or_cases (L l) _ h) [ inl u ↦ u | inr u ↦ absurd (omega (arith, typ_in 0 (λ e. false) l u)) ])
      (resolve_from D.entries 0 (omega arith) (λ e. false))
