-- The rows of a counting step, and the known label of each cell (01, "The counting step"; FORMAT 6).
use Rattle.std.specs.Prelude.{ℕ, zero, suc, ◌-◌, ◌≤◌, ◌<◌, ◌≡◌, ◌↔◌, ◌⊎◌, Bool, true, false, not, ◌&&◌, ◌||◌, List, [], ◌∷◌, ltb, length, get_or}
use Rattle.std.proofs.Math.Path.{refl, subst}
use Rattle.std.proofs.Common.{sym, ◌∙◌, ap, arith}
use Rattle.std.proofs.Math.Logic.{inl, inr}
use Rattle.std.proofs.lemmas.Bool.{false≢true}
use Rattle.std.proofs.Math.Option.{Option, none, some}
use Rattle.logic.specs.Tests.{So, ◌⇒◌, so_and, and_l, and_r, or_l, or_r, or_cases, so_ltb, ltb_so}
use Rattle.logic.specs.Bounded.{any_below, any_intro, any_elim}
use Rattle.logic.specs.Lists.{◌∈◌, at_member}
use Rattle.logic.specs.Sets.{has}
use Rattle.counting.specs.Trees.{Side, lower, upper}
use Rattle.counting.specs.Rows.{Bound, bound_at}
use Rattle.description.specs.Literals.{Literal, pos, neg, opposite, entry_of, entry_of_opposite, Label, same_literal, same_literal_lem, literal_same}
use Rattle.description.specs.Descriptions.{Entry, top, name, both, every, at_least, by_kind, Description, if_every, same_entry, same_entry↔}
use Rattle.description.specs.Roles.{ancestor}
use Rattle.description.specs.Acceptance.{EntryOk, Accepted, fields_at_lem}

pub record Row : Type 0 where
  pub role : ℕ
  pub qualifier : Literal
  pub side : Side
  pub bound : ℕ

-- the row of an entry, "at least n": (lower, n); and of its complement, (upper, n - 1), or for "every R l" (lower, 1, the opposite of l)
abbrev pub positive_row : Entry → Option Row
positive_row = by_kind none (λ a b. none) (λ r l. none) (λ r l n. some (record { role = r; qualifier = l; side = lower; bound = n }))

abbrev pub negative_row : Entry → Option Row
negative_row = by_kind none (λ a b. none) (λ r l. some (record { role = r; qualifier = opposite l; side = lower; bound = 1 }))
    (λ r l n. some (record { role = r; qualifier = l; side = upper; bound = n - 1 }))

abbrev pub row_of : Description → Literal → Option Row
row_of D (pos e) = positive_row (D.entry e)
row_of D (neg e) = negative_row (D.entry e)

abbrev pub is_row : Option Row → Bool
is_row none = false
is_row (some R) = true

abbrev pub row_from : Option Row → Row
row_from none = record { role = 0; qualifier = pos 0; side = lower; bound = 0 }
row_from (some R) = R

-- the rows of a step, one for each row literal
unfoldable pub rows_of : Description → List Literal → List Row
rows_of D [] = []
rows_of D (l ∷ ls) = row_from (row_of D l) ∷ rows_of D ls

abbrev pub row_at : List Row → ℕ → Row
row_at rows i = get_or rows i (row_from none)

-- what the arithmetic knows of the rows
unfoldable pub bounds : List Row → List Bound
bounds [] = []
bounds (R ∷ rows) = record { side = R.side; value = R.bound } ∷ bounds rows

-- the roles of cell c: those of its rows, and all above these
unfoldable pub cell_role : Description → List Row → ℕ → ℕ → Bool
cell_role D rows c r = any_below (length rows) (λ i. has c i && ancestor D (row_at rows i).role r)

module _ (D : Description) (L : Label) (rows : List Row) (c : ℕ) where
  abbrev among : ℕ → Bool
  among r = cell_role D rows c r

  -- what every filler of cell c satisfies if the label L holds where it is a filler of. In turn: top; the rows it counts in; the rows it
  -- would count in by its roles but does not; each ∀ of L over one of its roles; and the ∀ over a transitive sub-role that carries such a ∀ on
  pub data Known : Literal → Type 0 where
    topmost : Known (pos 0)
    qualified : (i : ℕ) → i < length rows → So (has c i) → Known (row_at rows i).qualifier
    denied : (i : ℕ) → i < length rows → So (not (has c i)) → So (among (row_at rows i).role) → Known (opposite (row_at rows i).qualifier)
    passed : (e r : ℕ) (l : Literal) → e < D.entries → So (L (pos e)) → D.entry e ≡ every r l → So (among r) → Known l
    onward : (e r : ℕ) (l : Literal) (t f : ℕ) → e < D.entries → So (L (pos e)) → D.entry e ≡ every r l
        → t < D.roles → So (D.transitive t) → So (among t) → So (ancestor D t r)
        → f < D.entries → every t l ≡ D.entry f → Known (pos f)

  -- the same as a test, phrase by phrase
  abbrev is_qualified : Literal → ℕ → Bool
  is_qualified l i = has c i && same_literal (row_at rows i).qualifier l

  abbrev is_denied : Literal → ℕ → Bool
  is_denied l i = not (has c i) && (among (row_at rows i).role && same_literal (opposite (row_at rows i).qualifier) l)

  abbrev is_onward : ℕ → Literal → Literal → ℕ → Bool
  is_onward r q (pos f) t = (D.transitive t && (among t && ancestor D t r)) && (ltb f D.entries && same_entry (every t q) (D.entry f))
  is_onward r q (neg f) t = false

  abbrev is_passed : Literal → ℕ → Bool
  is_passed l e = L (pos e) && by_kind false (λ a b. false) (λ r q. (among r && same_literal q l) || any_below D.roles (is_onward r q l)) (λ r q n. false) (D.entry e)

  unfoldable pub known : Label
  known l = same_literal (pos 0) l
      || (any_below (length rows) (is_qualified l) || (any_below (length rows) (is_denied l) || any_below D.entries (is_passed l)))

  onward_known : (e r : ℕ) (q : Literal) → e < D.entries → So (L (pos e)) → D.entry e ≡ every r q
      → (l : Literal) (t : ℕ) → t < D.roles → So (is_onward r q l t) → Known l
  onward_known e r q he p qe (pos f) t ht h = onward e r q t f he p qe ht (search (and_l, and_r)) (search (and_l, and_r)) (search (and_l, and_r))
      (so_ltb f D.entries (search (and_l, and_r))) ((same_entry↔ (every t q) (D.entry f)).0 (search (and_l, and_r)))
  onward_known e r q he p qe (neg f) t ht h = absurd (false≢true h)

  passed_known : (l : Literal) (e : ℕ) (x : Entry) → e < D.entries → So (L (pos e)) → D.entry e ≡ x
      → So (by_kind false (λ a b. false) (λ r q. (among r && same_literal q l) || any_below D.roles (is_onward r q l)) (λ r q n. false) x) → Known l
  passed_known l e (every r q) he p qe h = elim (or_cases (among r && same_literal q l) _ h) [
    | inl u ↦ subst Known (same_literal_lem q l (and_r (among r) _ u)) (passed e r q he p qe (and_l _ _ u))
    | inr u ↦ let t = any_elim D.roles (is_onward r q l) u in onward_known e r q he p qe l t.0 t.1 t.2
  ]
  passed_known l e top he p qe h = absurd (false≢true h)
  passed_known l e name he p qe h = absurd (false≢true h)
  passed_known l e (both a b) he p qe h = absurd (false≢true h)
  passed_known l e (at_least r q n) he p qe h = absurd (false≢true h)

  known_sound : (l : Literal) → So (known l) → Known l
  unfolding known
  known_sound l h = elim (or_cases (same_literal (pos 0) l) _ h) [
    | inl u ↦ subst Known (same_literal_lem (pos 0) l u) topmost
    | inr u ↦ elim (or_cases (any_below (length rows) (is_qualified l)) _ u) [
      | inl v ↦ let i = any_elim (length rows) (is_qualified l) v in
          subst Known (same_literal_lem _ l (and_r (has c i.0) _ i.2)) (qualified i.0 i.1 (and_l _ _ i.2))
      | inr v ↦ elim (or_cases (any_below (length rows) (is_denied l)) _ v) [
        | inl w ↦ let i = any_elim (length rows) (is_denied l) w in let x = and_r (not (has c i.0)) _ i.2 in
            subst Known (same_literal_lem _ l (and_r (among (row_at rows i.0).role) _ x)) (denied i.0 i.1 (and_l _ _ i.2) (and_l _ _ x))
        | inr w ↦ let e = any_elim D.entries (is_passed l) w in
            passed_known l e.0 (D.entry e.0) e.1 (and_l _ _ e.2) refl (and_r (L (pos e.0)) _ e.2)
      ]
    ]
  ]

  -- the last phrase, from an "every R q" of the label
  from_every : (l : Literal) (e r : ℕ) (q : Literal) → e < D.entries → So (L (pos e)) → D.entry e ≡ every r q
      → So ((among r && same_literal q l) || any_below D.roles (is_onward r q l)) → So (known l)
  unfolding known
  from_every l e r q he p qe h = or_r (same_literal (pos 0) l) _ (or_r (any_below (length rows) (is_qualified l)) _ (or_r (any_below (length rows) (is_denied l)) _
      (any_intro D.entries (is_passed l) e he (so_and (L (pos e)) _ p (rw qe h)))))

  known_complete : (l : Literal) → Known l → So (known l)
  unfolding known
  known_complete l topmost = refl
  known_complete l (qualified i h b) = or_r (same_literal (pos 0) l) _ (or_l _ _ (any_intro (length rows) (is_qualified l) i h (so_and _ _ b (literal_same l))))
  known_complete l (denied i h b r) = or_r (same_literal (pos 0) l) _ (or_r (any_below (length rows) (is_qualified l)) _ (or_l _ _
      (any_intro (length rows) (is_denied l) i h (so_and _ _ b (so_and _ _ r (literal_same l))))))
  known_complete l (passed e r q he p qe cr) = from_every l e r q he p qe (or_l _ _ (so_and _ _ cr (literal_same l)))
  known_complete l (onward e r q t f he p qe ht tr cr a hf qf) = from_every l e r q he p qe (or_r (among r && same_literal q l) _
      (any_intro D.roles (is_onward r q l) t ht (so_and _ _ (so_and _ _ tr (so_and _ _ cr a)) (so_and _ _ (ltb_so f D.entries hf) ((same_entry↔ (every t q) (D.entry f)).1 qf)))))

  pub known↔ : (l : Literal) → So (known l) ↔ Known l
  known↔ l = (known_sound l, known_complete l)

-- ---- the rows of row literals
pub length_rows : (D : Description) (lits : List Literal) → length (rows_of D lits) ≡ length lits
unfolding rows_of
length_rows D [] = refl
length_rows D (l ∷ lits) = ap suc (length_rows D lits)

pub length_bounds : (rows : List Row) → length (bounds rows) ≡ length rows
unfolding bounds
length_bounds [] = refl
length_bounds (R ∷ rows) = ap suc (length_bounds rows)

pub bound_at_lem : (rows : List Row) (i : ℕ) → bound_at (bounds rows) i ≡ record { side = (row_at rows i).side; value = (row_at rows i).bound }
unfolding bounds
bound_at_lem [] i = refl
bound_at_lem (R ∷ rows) zero = refl
bound_at_lem (R ∷ rows) (suc i) = bound_at_lem rows i

-- each row is the row of one of the literals
pub row_at_lem : (D : Description) (lits : List Literal) (i : ℕ) → i < length lits → row_at (rows_of D lits) i ≡ row_from (row_of D (get_or lits i (pos 0)))
unfolding rows_of
row_at_lem D [] i h = absurd (omega arith)
row_at_lem D (l ∷ lits) zero h = refl
row_at_lem D (l ∷ lits) (suc i) h = row_at_lem D lits i (omega arith)

-- a row's role and qualifier are of the table
abbrev pub RowIn : Description → Row → Type 0
RowIn D R = (R.role < D.roles) × (entry_of R.qualifier < D.entries)

module _ (D : Description) (A : Accepted D) where
  pub row_in_lem : (l : Literal) → entry_of l < D.entries → So (is_row (row_of D l)) → RowIn D (row_from (row_of D l))
  row_in_lem (pos e) h r = go (D.entry e) (A.fields e h) r
    where
      go : (x : Entry) → EntryOk D e x → So (is_row (positive_row x)) → RowIn D (row_from (positive_row x))
      go (at_least r l n) o t = (o.0.0, omega (arith, o.0.1))
      go top o t = absurd (false≢true t)
      go name o t = absurd (false≢true t)
      go (both a b) o t = absurd (false≢true t)
      go (every r l) o t = absurd (false≢true t)
  row_in_lem (neg e) h r = go (D.entry e) (A.fields e h) r
    where
      go : (x : Entry) → EntryOk D e x → So (is_row (negative_row x)) → RowIn D (row_from (negative_row x))
      go (at_least r l n) o t = (o.0.0, omega (arith, o.0.1))
      go (every r l) o t = (o.0, rw (entry_of_opposite l) (omega (arith, o.1)))
      go top o t = absurd (false≢true t)
      go name o t = absurd (false≢true t)
      go (both a b) o t = absurd (false≢true t)

  pub rows_inside : (lits : List Literal) → ((l : Literal) → l ∈ lits → entry_of l < D.entries) → ((l : Literal) → l ∈ lits → So (is_row (row_of D l)))
      → (i : ℕ) → i < length (rows_of D lits) → RowIn D (row_at (rows_of D lits) i)
  rows_inside lits inside rows i h =
      let l : i < length lits = omega (arith, length_rows D lits) in
      let m = at_member lits (pos 0) i l in
      rw (row_at_lem D lits i l) (row_in_lem (get_or lits i (pos 0)) (inside _ m) (rows _ m))

  -- what is known of a cell lies in the table
  pub known_in_lem : (L : Label) (rows : List Row) (c : ℕ) → ((i : ℕ) → i < length rows → RowIn D (row_at rows i)) → (l : Literal) → Known D L rows c l → entry_of l < D.entries
  known_in_lem L rows c f l topmost = A.some_entry
  known_in_lem L rows c f l (qualified i h b) = (f i h).1
  known_in_lem L rows c f l (denied i h b r) = rw (entry_of_opposite (row_at rows i).qualifier) (f i h).1
  known_in_lem L rows c f l (passed e r q he p qe cr) = omega (arith, (fields_at_lem D A e (every r q) he qe).1)
  known_in_lem L rows c f l (onward e r q t g he p qe ht tr cr a hg qg) = hg
