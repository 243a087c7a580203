-- Type elimination: drop types that the remaining ones do not support; each dropped type is derivable.
use Rattle.std.specs.Prelude.{ℕ, zero, suc, ◌+◌, ◌^◌, ◌≤◌, ◌<◌, ◌≡◌, ◌↔◌, ◌⊎◌, Bool, true, false, not, ◌&&◌, ◌||◌, List, [], eqb, ltb, length}
use Rattle.std.proofs.Math.Path.{refl}
use Rattle.std.proofs.Common.{sym, ◌∙◌, ap, subst, arith}
use Rattle.std.proofs.Math.Logic.{inl, inr}
use Rattle.std.proofs.lemmas.Bool.{false≢true}
use Rattle.std.proofs.Math.Decide.{dec_le}
use Rattle.logic.specs.Tests.{So, ◌⇒◌, decide, so_and, and_l, and_r, or_l, or_r, or_cases, not_so, so_not, so_eqb, imp_in}
use Rattle.logic.specs.Bounded.{all_below, any_below, all_elim, all_not, any_intro, any_elim, up_to_lem, find, find_ok}
use Rattle.logic.specs.Lists.{◌∈◌}
use Rattle.logic.specs.Sums.{count_below, count_bound, count_some, count_remove}
use Rattle.logic.specs.Sets.{has, set_of}
use Rattle.logic.specs.SetLaws.{has_set_of, set_of_lt}
use Rattle.counting.specs.Trees.{Tree, formed, live}
use Rattle.counting.specs.Rows.{Solves, Closed}
use Rattle.counting.proofs.Solutions.{closed_sound, solved_or_closed}
use Rattle.description.specs.Literals.{Literal, pos, neg, opposite, opposite_opposite, entry_of, entry_of_opposite, Label, plus, plus↔, Within, InTable, literal_same}
use Rattle.description.specs.Descriptions.{Entry, top, name, both, every, at_least, Description, compatible, compatible↔, if_both}
use Rattle.description.specs.Acceptance.{Accepted, fields_at_lem}
use Rattle.graph.specs.Graphs.{Edge, LabelOk, NodeOk}
use Rattle.graph.specs.GraphTests.{both_test}
use Rattle.graph.proofs.GraphTests.{both↔}
use Rattle.refutation.specs.Cells.{Row, row_of, is_row, row_from, rows_of, row_at, bounds, RowIn, cell_role, known, known↔, rows_inside, known_in_lem, length_rows, length_bounds, bound_at_lem, row_at_lem}
use Rattle.completeness.specs.Derivable.{Derivable, derivable_mono, by_contradiction, by_bottom, by_conjunction, by_disjunction, by_rule_lem, by_counting}
use Rattle.completeness.specs.Types.{chosen, typ, pos_in, neg_in, pos_out, typ_in, typ_full, typ_one, typ_cong, chosen_in, lies, lies↔, resolve}
use Rattle.completeness.specs.TypeRows.{TypeRows, rows_of_type, at_places}
use Rattle.completeness.specs.Nodes.{solved}

plus_in : (n : ℕ) (L : Label) (x : Literal) → InTable n L → entry_of x < n → InTable n (plus L x)
plus_in n L x t h l u = elim ((plus↔ L x l).0 u) [ inl v ↦ t l v | inr e ↦ subst (λ y. entry_of y < n) e h ]

-- what is put in beside its opposite contradicts it
plus_clash : (D : Description) (L : Label) (x : Literal) → InTable D.entries L → So (L (opposite x)) → Derivable D (plus L x)
plus_clash D L x t h = by_contradiction D (plus L x) (plus_in D.entries L x t (rw (entry_of_opposite x) at (t (opposite x) h))) x
    (or_r (L x) _ (literal_same x)) (or_l _ _ h)

not_imp : (a b : Bool) → (So (a ⇒ b) → ⊥) → So a × (So b → ⊥)
not_imp true b h = (refl, h)
not_imp false b h = absurd (h refl)

module _ (D : Description) (A : Accepted D) where
  abbrev n : ℕ
  n = D.entries

  -- type number c
  abbrev pub type : ℕ → Label
  type c = typ n (has c)

  -- every type outside S is derivable
  abbrev pub Dropped : (ℕ → Bool) → Type 0
  Dropped S = (c : ℕ) → c < 2 ^ n → (So (S c) → ⊥) → Derivable D (type c)

  -- a label that no remaining type contains is derivable
  pub none_contains : (S : ℕ → Bool) → Dropped S → (L : Label) → InTable n L → ((c : ℕ) → c < 2 ^ n → So (S c) → Within L (type c) → ⊥) → Derivable D L
  none_contains S dropped L t free = resolve D L t (λ p w. one p w (decide (S (set_of n p))))
    where
      one : (p : ℕ → Bool) → Within L (typ n p) → So (S (set_of n p)) ⊎ (So (S (set_of n p)) → ⊥) → Derivable D (typ n p)
      one p w (inl u) = absurd (free (set_of n p) (set_of_lt n p) u (λ l h. typ_cong n p (has (set_of n p)) (λ e he. sym (has_set_of n p e he)) l (w l h)))
      one p w (inr u) = derivable_mono D (type (set_of n p)) (typ n p) (typ_cong n (has (set_of n p)) p (has_set_of n p)) (dropped (set_of n p) (set_of_lt n p) u)

  -- a type with edges to remaining types
  pub record Supported (S : ℕ → Bool) (c : ℕ) : Type 0 where
    pub edges : List Edge
    pub node : NodeOk D (2 ^ n) type [] (type c) edges
    pub remain : (E : Edge) → E ∈ edges → So (S E.target)

  -- ---- a type that breaks a "both" is derivable
  module _ (p : ℕ → Bool) where
    abbrev L : Label
    L = typ n p

    lacks : (l : Literal) → entry_of l < n → (So (L l) → ⊥) → So (L (opposite l))
    lacks l h f = elim (typ_full n p l h) [ inl u ↦ absurd (f u) | inr u ↦ u ]

    -- what the type lacks clashes with it
    clash_with : (l : Literal) → entry_of l < n → (So (L l) → ⊥) → Derivable D (plus L l)
    clash_with l h f = plus_clash D L l (typ_in n p) (lacks l h f)

    both_broken : (e : ℕ) (a b : Literal) → e < n → D.entry e ≡ both a b
        → So (not ((L (pos e) ⇒ (L a && L b)) && (L (neg e) ⇒ (L (opposite a) || L (opposite b))))) → Derivable D L
    both_broken e a b he q f =
        let o = fields_at_lem D A e (both a b) he q in
        let ha : entry_of a < n = omega arith in let hb : entry_of b < n = omega arith in
        elim (decide (L (pos e) ⇒ (L a && L b))) [
          | inl u ↦ let w = not_imp (L (neg e)) (L (opposite a) || L (opposite b)) (λ v. not_so _ f (so_and (L (pos e) ⇒ (L a && L b)) _ u v)) in
              by_disjunction D L (typ_in n p) e a b q w.0
              (clash_with (opposite a) (rw (entry_of_opposite a) ha) (λ v. w.1 (or_l _ _ v)))
              (clash_with (opposite b) (rw (entry_of_opposite b) hb) (λ v. w.1 (or_r (L (opposite a)) _ v)))
          | inr u ↦ let w = not_imp (L (pos e)) (L a && L b) u in by_conjunction D L (typ_in n p) e a b q w.0 (elim (decide (L a)) [
            | inl v ↦ derivable_mono D (plus L b) (plus (plus L a) b)
                (λ l h. elim ((plus↔ L b l).0 h) [ inl x ↦ or_l (plus L a l) _ (or_l (L l) _ x) | inr x ↦ (plus↔ (plus L a) b l).1 (inr x) ])
                (clash_with b hb (λ x. w.1 (so_and _ _ v x)))
            | inr v ↦ derivable_mono D (plus L a) (plus (plus L a) b) (λ l h. or_l _ _ h) (clash_with a ha v)
          ])
        ]

    broken : (e : ℕ) (x : Entry) → e < n → D.entry e ≡ x
        → So (not (if_both (λ a b. (L (pos e) ⇒ (L a && L b)) && (L (neg e) ⇒ (L (opposite a) || L (opposite b)))) x)) → Derivable D L
    unfolding if_both
    broken e (both a b) he q f = both_broken e a b he q f
    broken e top he q f = absurd (false≢true f)
    broken e name he q f = absurd (false≢true f)
    broken e (every r l) he q f = absurd (false≢true f)
    broken e (at_least r l k) he q f = absurd (false≢true f)

  -- ---- a type is supported by the remaining ones, or derivable
  module _ (S : ℕ → Bool) (dropped : Dropped S) (c : ℕ) where
    abbrev p : ℕ → Bool
    p = has c

    T : TypeRows D p n
    T = rows_of_type D p n

    abbrev rows : List Row
    rows = rows_of D T.lits

    typ_has : (l : Literal) → l ∈ T.lits → So (type c l)
    typ_has = at_places (λ l. So (type c l)) T.lits (λ j h. let w = T.picked j h in rw w.2 (chosen_in n p w.0 w.1))

    lits_in : (l : Literal) → l ∈ T.lits → entry_of l < n
    lits_in l m = typ_in n p l (typ_has l m)

    lits_rows : (l : Literal) → l ∈ T.lits → So (is_row (row_of D l))
    lits_rows = at_places (λ l. So (is_row (row_of D l))) T.lits T.are_rows

    rows_ok : (i : ℕ) → i < length rows → RowIn D (row_at rows i)
    rows_ok = rows_inside D A T.lits lits_in lits_rows

    abbrev shown : ℕ → Label
    shown m = known D (type c) rows m

    shown_in : (m : ℕ) → InTable n (shown m)
    shown_in m l h = known_in_lem D A (type c) rows m rows_ok l ((known↔ D (type c) rows m l).0 h)

    -- a cell is open if its roles are those of one pair and a remaining type contains its known label
    abbrev free : ℕ → Bool
    free m = compatible D (cell_role D rows m)

    abbrev over : ℕ → ℕ → Bool
    over m t = S t && lies n (shown m) (type t)

    open? : ℕ → Bool
    open? m = free m && any_below (2 ^ n) (over m)

    shut_derivable : (m : ℕ) → So (free m) → (So (open? m) → ⊥) → Derivable D (shown m)
    unfolding open?
    shut_derivable m a o = none_contains S dropped (shown m) (shown_in m)
        (λ t ht st w. o (so_and (free m) _ a (any_intro (2 ^ n) (over m) t ht (so_and _ _ st ((lies↔ n (shown m) (type t) (shown_in m)).1 w)))))

    open_free : (m : ℕ) → So (open? m) → So (free m)
    unfolding open?
    open_free m o = and_l (free m) _ o

    pick : ℕ → ℕ
    pick m = find (2 ^ n) (over m)

    pick_ok : (m : ℕ) → So (open? m) → (pick m < 2 ^ n) × So (over m (pick m))
    unfolding open? pick
    pick_ok m o = find_ok (2 ^ n) (over m) (and_r (free m) _ o)

    -- the rows decide: a solution gives edges to remaining types, a closing tree a counting step
    by_rows : LabelOk D [] (type c) → So (both_test D (type c)) → Supported S c ⊎ Derivable D (type c)
    by_rows lok bok = elim (solved_or_closed (bounds rows) open?) [
      | inl s ↦ inl (supported s.0 s.1)
      | inr t ↦ inr (elim (dec_le 1 (length T.lits)) [ yes h ↦ closing h t.0 t.1 t.2 | no h ↦ absurd (no_rows h t.0 t.2) ])
    ]
      where
        opened : (m : ℕ) → So (live open? m) → So (open? m)
        opened m o = and_r (ltb 0 m) (open? m) o

        supported : (x : ℕ → ℕ) → Solves (bounds rows) open? x → Supported S c
        supported x s = let w = solved D A p (2 ^ n) has rows rows_ok open? x
            (λ i h. rw (length_bounds rows, bound_at_lem rows i) at (s i (rw (length_bounds rows) h)))
            pick (λ m _ o. (pick_ok m (opened m o)).0)
            (λ m _ o l k. (lies↔ n (shown m) (type (pick m)) (shown_in m)).0 (and_r (S (pick m)) _ (pick_ok m (opened m o)).1) l ((known↔ D (type c) rows m l).1 k))
            (λ m o. (compatible↔ D (cell_role D rows m)).0 (open_free m (opened m o)))
            [] lok ((both↔ D (type c)).0 bok)
            (λ e he r. let v = T.there e he r in (v.0, omega (arith, v.1, length_rows D T.lits), row_at_lem D T.lits v.0 v.1 ∙ ap (λ l. row_from (row_of D l)) v.2)) in
            record {
              edges = w.0;
              node = w.1;
              remain = λ E m. let v = w.2 E m in subst (λ t. So (S t)) (sym v.2) (and_l _ _ (pick_ok v.0 (opened v.0 v.1)).1);
            }

        closing : 1 ≤ length T.lits → (t : Tree) → So (formed (length (bounds rows)) t) → Closed (bounds rows) open? t → Derivable D (type c)
        closing h t f k = by_counting D (type c) (typ_in n p) open? free shown open_free T.lits (λ m. compatible↔ D (cell_role D rows m)) (λ m l u. (known↔ D (type c) rows m l).0 u) h
            (λ l m. (typ_has l m, lits_rows l m)) T.rising (λ m _ _ a o. shut_derivable m a o) t
            (rw (length_bounds rows, length_rows D T.lits) at f) k

        no_rows : (1 ≤ length T.lits → ⊥) → (t : Tree) → Closed (bounds rows) open? t → ⊥
        no_rows h t k = closed_sound (bounds rows) open? t k (λ _. 0) (λ i l. absurd (omega (arith, l, h, length_bounds rows, length_rows D T.lits)))

    -- a type that is not supported breaks literal 0, a rule, a "both" or its rows
    pub judge : Supported S c ⊎ Derivable D (type c)
    unfolding both_test
    judge = elim (decide (p 0)) [
      | inr u ↦ inr (by_bottom D (type c) (typ_in n p) (neg_in n p 0 A.some_entry (so_not _ u)))
      | inl u ↦ elim (decide (all_below D.rules (λ i. type c (D.rule i)))) [
        | inr v ↦ inr (let w = all_not D.rules (λ i. type c (D.rule i)) v in
            by_rule_lem D (type c) (typ_in n p) w.0 w.1 (clash_with p (D.rule w.0) (A.rules_inside w.0 w.1) (not_so _ w.2)))
        | inl v ↦ elim (decide (both_test D (type c))) [
          | inr b ↦ inr (let w = all_not n _ b in broken p w.0 (D.entry w.0) w.1 refl w.2)
          | inl b ↦ by_rows (record {
            inside_table = typ_in n p;
            has_top = pos_in n p 0 A.some_entry u;
            has_rules = all_elim D.rules (λ i. type c (D.rule i)) v;
            consistent = λ e _. typ_one n p (pos e);
            has_wanted = λ l m. elim m [ ];
          }) b
        ]
      ]
    ]

  -- ---- elimination
  abbrev pub AllSupported : (ℕ → Bool) → Type 0
  AllSupported S = (c : ℕ) → c < 2 ^ n → So (S c) → Supported S c

  abbrev without : (ℕ → Bool) → ℕ → ℕ → Bool
  without S c x = S x && not (eqb x c)

  without_dropped : (S : ℕ → Bool) → Dropped S → (c : ℕ) → Derivable D (type c) → Dropped (without S c)
  without_dropped S dropped c h x hx o = elim (decide (S x)) [
    | inl u ↦ elim (decide (eqb x c)) [ inl v ↦ subst (λ y. Derivable D (type y)) (sym (so_eqb x c v)) h | inr v ↦ absurd (o (so_and _ _ u (so_not _ v))) ]
    | inr u ↦ dropped x hx u
  ]

  judge_all : (S : ℕ → Bool) → Dropped S → (m : ℕ) → m ≤ 2 ^ n
      → ((c : ℕ) → c < m → So (S c) → Supported S c) ⊎ ((c : ℕ) × (c < 2 ^ n) × So (S c) × Derivable D (type c))
  judge_all S dropped zero h = inl (λ c l. absurd (omega arith))
  judge_all S dropped (suc m) h = elim (judge_all S dropped m (omega arith)) [
    | inr w ↦ inr w
    | inl f ↦ elim (decide (S m)) [
      | inr u ↦ inl (up_to_lem (λ c. So (S c) → Supported S c) m f (λ v. absurd (u v)))
      | inl u ↦ elim (judge S dropped m) [ inl g ↦ inl (up_to_lem (λ c. So (S c) → Supported S c) m f (λ _. g)) | inr g ↦ inr (m, h, u, g) ]
    ]
  ]

  eliminate : (fuel : ℕ) (S : ℕ → Bool) → Dropped S → count_below (2 ^ n) S ≤ fuel → (S : ℕ → Bool) × Dropped S × AllSupported S
  eliminate zero S dropped h = (S, dropped, λ c l u. absurd (omega (arith, count_some (2 ^ n) S c l u)))
  eliminate (suc fuel) S dropped h = elim (judge_all S dropped (2 ^ n) (omega arith)) [
    | inl g ↦ (S, dropped, g)
    | inr w ↦ eliminate fuel (without S w.0) (without_dropped S dropped w.0 w.3) (omega (arith, count_remove (2 ^ n) S w.0 w.1 w.2))
  ]

  -- what remains of all types supports itself
  pub remaining : (S : ℕ → Bool) × Dropped S × AllSupported S
  remaining = eliminate (2 ^ n) (λ c. true) (λ c l o. absurd (o refl)) (count_bound (2 ^ n) (λ c. true))
