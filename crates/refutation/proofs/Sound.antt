-- Refutations are sound: no element of any finite model has a record's label, so none has all that is wanted.
use Rattle.std.specs.Prelude.{ℕ, zero, suc, ◌-◌, ◌^◌, ◌≤◌, ◌<◌, ◌≡◌, refl, ◌⊎◌, Bool, List, length}
use Rattle.std.proofs.Common.{sym, ◌∙◌, subst, inl, inr, arith}
use Rattle.logic.specs.Tests.{So, decide, so_and, and_l, and_r, or_cases, not_so, so_not}
use Rattle.logic.specs.Bounded.{any_elim, up_to_lem}
use Rattle.logic.specs.Lists.{at_member}
use Rattle.logic.specs.Sums.{count_below}
use Rattle.logic.specs.Sets.{has, set_of}
use Rattle.logic.specs.SetLaws.{has_set_of, set_of_lt}
use Rattle.counting.specs.Trees.{Meets}
use Rattle.counting.specs.Rows.{Fillers}
use Rattle.counting.proofs.Solutions.{closed_no_fillers}
use Rattle.description.specs.Literals.{Literal, pos, neg, opposite, same_literal_lem, Label, members, plus, Within}
use Rattle.description.specs.Descriptions.{Description, Compatible}
use Rattle.description.specs.Acceptance.{Accepted}
use Rattle.interpretation.specs.Meaning.{Interpretation, truth, holds}
use Rattle.interpretation.specs.Models.{Model, Satisfies, AllTrue, plus_true, role_up, top_true, both_true, every_true}
use Rattle.interpretation.proofs.Models.{opposite_true}
use Rattle.refutation.specs.Cells.{Row, rows_of, row_at, bounds, cell_role, Known, topmost, qualified, denied, passed, onward, length_rows, length_bounds, bound_at_lem, row_at_lem, rows_inside, RowIn}
use Rattle.refutation.specs.Records.{Cell, unshown, cited, barred, Counting, Step, contradiction, conjunction, disjunction, by_rule, case_split, counting, Refutation, record_at, number_at, cell_at, open_at, is_open, literal_at, CiteOk, StepOk, in_label, CellFits, CellOk, TreeOk, RecordOk, Closes}
use Rattle.refutation.proofs.RowMet.{in_row, row_met}

-- no element of any model has all of L
abbrev pub Refuted : Description → Label → Type 0
Refuted D L = (I : Interpretation) → Model D I → (x : ℕ) → x < I.size → AllTrue D I L x → ⊥

-- ---- the fillers of x, by the rows that they count in
module _ (D : Description) (A : Accepted D) (I : Interpretation) (M : Model D I) (x : ℕ) (hx : x < I.size) (L : Label) (all : AllTrue D I L x)
    (rows : List Row) (inside : (i : ℕ) → i < length rows → RowIn D (row_at rows i)) where
  counts : ℕ → ℕ → Bool
  counts y i = in_row D I x (row_at rows i) y

  cell_of : ℕ → ℕ
  cell_of y = set_of (length rows) (counts y)

  in_cell : (y i : ℕ) → i < length rows → has (cell_of y) i ≡ counts y i
  unfolding cell_of
  in_cell y i h = has_set_of (length rows) (counts y) i h

  -- a filler has the roles of its cell
  has_role : (y r : ℕ) → y < I.size → So (cell_role D rows (cell_of y) r) → So (I.role r x y)
  unfolding cell_role counts
  has_role y r hy e =
      let w = any_elim (length rows) _ e in
      role_up D A I M (row_at rows w.0).role r x y (inside w.0 w.1).0 (and_r (has (cell_of y) w.0) _ w.2) hx hy
      (and_l _ _ (sym (in_cell y w.0 w.1) ∙ and_l _ _ w.2))

  -- and all that is known of it
  known_true : (y : ℕ) → y < I.size → (l : Literal) → Known D L rows (cell_of y) l → So (holds D I l y)
  unfolding counts
  known_true y hy l topmost = top_true D A I y
  known_true y hy l (qualified i h e) = and_r (I.role (row_at rows i).role x y) _ (sym (in_cell y i h) ∙ e)
  known_true y hy l (denied i h e r) = (opposite_true D I (row_at rows i).qualifier y).1
      (λ q. not_so (has (cell_of y) i) e (in_cell y i h ∙ so_and _ _ (has_role y (row_at rows i).role hy r) q))
  known_true y hy l (passed e r q he p qe c) = (every_true D A I e x r q he qe).0 (all (pos e) p) y hy (has_role y r hy c)
  known_true y hy l (onward e r q t f he p qe ht tr c a hf qf) = (every_true D A I f y t q hf (sym qf)).1
      (λ z hz u. (every_true D A I e x r q he qe).0 (all (pos e) p) z hz
      (role_up D A I M t r x z ht a hx hz (M.transitivity t ht tr x hx y hy (has_role y t hy c) z hz u)))

  -- so its cell's roles are those of one pair
  cell_compatible : (y : ℕ) → y < I.size → Compatible D (cell_role D rows (cell_of y))
  cell_compatible y hy i h p q = M.disjointness x hx y hy i h (has_role y _ hy p) (has_role y _ hy q)

  -- so they are fillers that meet every row, if no element is known to be in a cell that is not open
  pub as_fillers : ((i : ℕ) → i < length rows → Meets (row_at rows i).side (row_at rows i).bound (count_below I.size (in_row D I x (row_at rows i))))
      → (open? : ℕ → Bool)
      → ((c : ℕ) → c < 2 ^ length rows → 0 < c → (So (open? c) → ⊥) → Compatible D (cell_role D rows c)
      → (y : ℕ) → y < I.size → ((l : Literal) → Known D L rows c l → So (holds D I l y)) → ⊥)
      → Fillers (bounds rows) open?
  unfolding counts cell_of
  as_fillers met open? empty = record {
    count = I.size;
    counts = counts;
    outside = λ y hy p. rw (length_bounds rows) (opened y hy (rw (length_bounds rows) at p) (decide (open? (cell_of y))));
    meets = λ i h. rw (bound_at_lem rows i) (met i (rw (length_bounds rows) at h));
  }
    where
      opened : (y : ℕ) → y < I.size → 0 < cell_of y → So (open? (cell_of y)) ⊎ (So (open? (cell_of y)) → ⊥) → So (open? (cell_of y))
      opened y hy p (inl u) = u
      opened y hy p (inr u) = absurd (empty (cell_of y) (set_of_lt (length rows) (counts y)) p u (cell_compatible y hy) y hy (known_true y hy))

-- ---- one record, from the records before it
module _ (D : Description) (A : Accepted D) (num : ℕ → ℕ) (i : ℕ) (L : Label) (before : (j : ℕ) → j < i → Refuted D (members (num j))) where
  cited_refuted : (c : ℕ) (M : Label) → c < i → Within (members (num c)) M → Refuted D M
  cited_refuted c M h w I J x hx all = before c h I J x hx (λ l u. all l (w l u))

  in_label_lem : (I : Interpretation) (x : ℕ) (l : Literal) → AllTrue D I L x → So (in_label L l) → So (holds D I l x)
  in_label_lem I x l all e = elim (or_cases (L l) _ e) [ inl h ↦ all l h | inr h ↦ rw (same_literal_lem l (pos 0) h) (top_true D A I x) ]

  -- what a counting step shows
  counting_sound : (K : Counting) → CiteOk D num i L (counting K) → StepOk D num i L (counting K) → CellOk D num i L (counting K) → TreeOk D num i L (counting K)
      → Refuted D L
  counting_sound K n a s e I M x hx all =
      closed_no_fillers _ _ K.tree e
      (as_fillers D A I M x hx L all rows (rows_inside D A K.rows n.0 (λ l m. (a.0 l m).1)) met (open_at K.cells) empty)
    where
      rows : List Row
      rows = rows_of D K.rows

      met : (j : ℕ) → j < length rows → Meets (row_at rows j).side (row_at rows j).bound (count_below I.size (in_row D I x (row_at rows j)))
      met j h =
          let g : j < length K.rows = omega (arith, length_rows D K.rows) in
          let l = literal_at K.rows j in
          let m = at_member K.rows (pos 0) j g in
          rw (row_at_lem D K.rows j g) (row_met D A I x l (n.0 l m) (a.0 l m).1 (all l (a.0 l m).0))

      empty : (c : ℕ) → c < 2 ^ length rows → 0 < c → (So (open_at K.cells c) → ⊥) → Compatible D (cell_role D rows c)
          → (y : ℕ) → y < I.size → ((l : Literal) → Known D L rows c l → So (holds D I l y)) → ⊥
      empty c h p o free y hy t =
          let g : c < 2 ^ length K.rows = rw (length_rows D K.rows) at h in
          shut (cell_at K.cells c) (λ j q. n.1 c g p j q) (s c g p) o
        where
          shut : (v : Cell) → ((j : ℕ) → v ≡ cited j → j < i) → CellFits D num i L rows c v → (So (is_open v) → ⊥) → ⊥
          shut unshown earlier fits o = o refl
          shut (cited j) earlier fits o = before j (earlier j refl) I M y hy (λ l u. t l (fits.1 l u))
          shut barred earlier fits o = fits free

  pub record_sound : (s : Step) → RecordOk D num i L s → Refuted D L
  record_sound (contradiction l) ok I M x hx all =
      (opposite_true D I l x).0 (in_label_lem I x (opposite l) all ok.step_holds.1) (in_label_lem I x l all ok.step_holds.0)
  record_sound (conjunction e c) ok I M x hx all =
      let w = ok.step_holds.1 in
      let t = (both_true D A I e x w.0 w.1 ok.cite_ok.0 w.2).0 (all (pos e) ok.step_holds.0) in
      cited_refuted c _ ok.cite_ok.1 w.3 I M x hx (plus_true D I (plus L w.0) w.1 x (plus_true D I L w.0 x all t.0) t.1)
  record_sound (disjunction e c d) ok I M x hx all =
      let w = ok.step_holds.1 in
      elim (decide (holds D I w.0 x)) [
        | inl p ↦ elim (decide (holds D I w.1 x)) [
          | inl q ↦ not_so _ (all (neg e) ok.step_holds.0) ((both_true D A I e x w.0 w.1 ok.cite_ok.0 w.2).1 (p, q))
          | inr q ↦ cited_refuted d _ ok.cite_ok.1.1 w.3.1 I M x hx (plus_true D I L (opposite w.1) x all ((opposite_true D I w.1 x).1 q))
        ]
        | inr p ↦ cited_refuted c _ ok.cite_ok.1.0 w.3.0 I M x hx (plus_true D I L (opposite w.0) x all ((opposite_true D I w.0 x).1 p))
      ]
  record_sound (by_rule q c) ok I M x hx all =
      cited_refuted c _ ok.cite_ok.1 ok.step_holds I M x hx (plus_true D I L (D.rule q) x all (M.rules q ok.cite_ok.0 x hx))
  record_sound (case_split e c d) ok I M x hx all = elim (decide (truth D I e x)) [
    | inl p ↦ cited_refuted c _ ok.cite_ok.1.0 ok.step_holds.0 I M x hx (plus_true D I L (pos e) x all p)
    | inr p ↦ cited_refuted d _ ok.cite_ok.1.1 ok.step_holds.1 I M x hx (plus_true D I L (neg e) x all (so_not _ p))
  ]
  record_sound (counting K) ok I M x hx all = counting_sound K ok.cite_ok ok.step_holds ok.cell_ok ok.tree_ok I M x hx all

-- ---- the whole
-- no element of any model has the label of any of the records
pub records_sound : (D : Description) → Accepted D → (C : Refutation)
    → ((i : ℕ) → i < length C → RecordOk D (number_at C) i (members (number_at C i)) (record_at C i).step) → (n : ℕ) → n ≤ length C
    → (j : ℕ) → j < n → Refuted D (members (number_at C j))
records_sound D A C ok zero h = λ j l. absurd (omega arith)
records_sound D A C ok (suc n) h =
    let r = records_sound D A C ok n (omega arith) in
    up_to_lem (λ j. Refuted D (members (number_at C j))) n r (record_sound D A (number_at C) n (members (number_at C n)) r (record_at C n).step (ok n h))

-- after EMPTY no finite model of any size has an element with all that is wanted
pub refutation_sound : (D : Description) → Accepted D → (W : List Literal) (C : Refutation) → Closes D W C
    → (I : Interpretation) → Model D I → Satisfies D W I → ⊥
refutation_sound D A W C k I M w =
    records_sound D A C k.valid.records (length C) (omega arith) (length C - 1) (omega (arith, k.some_record)) I M w.0 w.1
    (λ l u. elim (k.end l u) [ inl e ↦ subst (λ m. So (holds D I m w.0)) e (top_true D A I w.0) | inr m ↦ w.2 l m ])
