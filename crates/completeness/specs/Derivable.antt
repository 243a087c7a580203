-- Derivable labels: every valid list of records extends to one that rules the label out, by a record for a part of it.
-- Appending spoils no earlier record, so lists are threaded and never merged or renumbered. Each step is a rule for derivable labels.
use Rattle.std.specs.Prelude.{ℕ, zero, suc, ◌+◌, ◌-◌, ◌^◌, ◌≤◌, ◌<◌, ◌≡◌, refl, ◌↔◌, ◌⊎◌, Bool, true, false, not, ◌||◌, List, [], ◌∷◌, ◌++◌, length, get_or, take}
use Rattle.std.proofs.Common.{sym, ◌∙◌, ap, subst, inl, inr, arith, pow_pos, get_or-take, length-take-le}
use Rattle.std.proofs.Math.Path.{fun_ext}
use Rattle.logic.specs.Tests.{So, decide, so_not, so_false, or_l, or_r, same_test}
use Rattle.logic.specs.Bounded.{up_to_lem}
use Rattle.logic.specs.Lists.{◌∈◌, length_snoc, at_snoc_old, at_snoc_new}
use Rattle.counting.specs.Trees.{Tree, formed}
use Rattle.counting.proofs.TreeLaws.{tree_open}
use Rattle.counting.specs.Rows.{Closed, limits}
use Rattle.description.specs.Literals.{Literal, pos, neg, opposite, code, entry_of, Label, members, plus, Within, InTable, label_of, members_label_of, literal_same}
use Rattle.description.specs.Descriptions.{both, Description, Compatible}
use Rattle.refutation.specs.Cells.{row_of, is_row, rows_of, bounds, cell_role, Known, length_rows, length_bounds}
use Rattle.refutation.specs.Records.{Cell, unshown, cited, barred, is_open, open_at, cell_at, literal_at, Counting, Step, contradiction, conjunction, disjunction, by_rule, case_split, counting, Record, Refutation, record_at, number_at, Formed, CellFits, RecordOk, Valid}

pub record Extends (C C' : Refutation) : Type 0 where
  pub longer : length C ≤ length C'
  pub keeps : (i : ℕ) → i < length C → number_at C' i ≡ number_at C i

pub record Reaches (D : Description) (L : Label) (C : Refutation) : Type 0 where
  pub list : Refutation
  pub valid : Valid D list
  pub extends : Extends C list
  pub at : ℕ
  pub at_in : at < length list
  pub lies : Within (members (number_at list at)) L

abbrev pub Derivable : Description → Label → Type 0
Derivable D L = (C : Refutation) → Valid D C → Reaches D L C

extends_refl : (C : Refutation) → Extends C C
extends_refl C = record { longer = omega arith; keeps = λ i h. refl }

extends_trans : (C C' C'' : Refutation) → Extends C C' → Extends C' C'' → Extends C C''
extends_trans C C' C'' a b = record { longer = omega arith; keeps = λ i h. b.keeps i (omega arith) ∙ a.keeps i h }

pub derivable_mono : (D : Description) (L M : Label) → Within L M → Derivable D L → Derivable D M
derivable_mono D L M w d C v = let r = d C v in
    record { list = r.list; valid = r.valid; extends = r.extends; at = r.at; at_in = r.at_in; lies = λ l h. w l (r.lies l h) }

-- a record looks only at the labels of earlier ones
module _ (D : Description) (num num' : ℕ → ℕ) (i : ℕ) (L : Label) (same : (j : ℕ) → j < i → num' j ≡ num j) where
  moved : (j : ℕ) (M : Label) → j < i → Within (members (num j)) M → Within (members (num' j)) M
  moved j M h w = rw (same j h) w

  move : (s : Step) → RecordOk D num i L s → RecordOk D num' i L s
  move (contradiction l) o = record { inside_table = o.inside_table; cite_ok = o.cite_ok; step_holds = o.step_holds; cell_ok = tt; tree_ok = tt }
  move (conjunction e c) o = let w = o.step_holds.1 in record {
    inside_table = o.inside_table;
    cite_ok = o.cite_ok;
    step_holds = (o.step_holds.0, (w.0, w.1, w.2, moved c (plus (plus L w.0) w.1) o.cite_ok.1 w.3));
    cell_ok = tt;
    tree_ok = tt;
  }
  move (disjunction e c d) o = let w = o.step_holds.1 in record {
    inside_table = o.inside_table;
    cite_ok = o.cite_ok;
    step_holds = (
      o.step_holds.0,
      (
        w.0,
        w.1,
        w.2,
        (moved c (plus L (opposite w.0)) o.cite_ok.1.0 w.3.0, moved d (plus L (opposite w.1)) o.cite_ok.1.1 w.3.1),
      ),
    );
    cell_ok = tt;
    tree_ok = tt;
  }
  move (by_rule q c) o = record { inside_table = o.inside_table; cite_ok = o.cite_ok; step_holds = moved c (plus L (D.rule q)) o.cite_ok.1 o.step_holds; cell_ok = tt; tree_ok = tt }
  move (case_split e c d) o = record {
    inside_table = o.inside_table;
    cite_ok = o.cite_ok;
    step_holds = (moved c (plus L (pos e)) o.cite_ok.1.0 o.step_holds.0, moved d (plus L (neg e)) o.cite_ok.1.1 o.step_holds.1);
    cell_ok = tt;
    tree_ok = tt;
  }
  move (counting K) o = record {
    inside_table = o.inside_table;
    cite_ok = o.cite_ok;
    step_holds = o.step_holds;
    cell_ok = λ c h p. fits c (cell_at K.cells c) (λ j q. o.cite_ok.1 c h p j q) (o.cell_ok c h p);
    tree_ok = o.tree_ok;
  }
    where
      fits : (c : ℕ) (x : Cell) → ((j : ℕ) → x ≡ cited j → j < i) → CellFits D num i L (rows_of D K.rows) c x → CellFits D num' i L (rows_of D K.rows) c x
      fits c unshown h f = f
      fits c (cited j) h f = (f.0, λ l u. f.1 l (subst (λ n. So (members n l)) (same j (h j refl)) u))
      fits c barred h f = f

-- ---- one more record
abbrev append : Refutation → ℕ → Step → Refutation
append C N s = C ++ (record { label = N; step = s } ∷ [])

module _ (C : Refutation) (N : ℕ) (s : Step) where
  old_record : (i : ℕ) → i < length C → record_at (append C N s) i ≡ record_at C i
  old_record i h = at_snoc_old C _ _ i h

  new_record : record_at (append C N s) (length C) ≡ record { label = N; step = s }
  new_record = at_snoc_new C _ _

append_valid : (D : Description) (C : Refutation) (N : ℕ) (s : Step) → Valid D C → Formed s → RecordOk D (number_at C) (length C) (members N) s → Valid D (append C N s)
append_valid D C N s v f o = record {
  forms = λ i h. up_to_lem (λ i. Formed (record_at C' i).step) (length C)
      (λ i h. rw (old_record C N s i h) (v.forms i h)) (rw (new_record C N s) f) i (rw (length_snoc C _) at h);
  records = λ i h. up_to_lem (λ i. RecordOk D (number_at C') i (members (number_at C' i)) (record_at C' i).step) (length C) old new i (rw (length_snoc C _) at h);
}
  where
    C' : Refutation
    C' = append C N s

    old : (i : ℕ) → i < length C → RecordOk D (number_at C') i (members (number_at C' i)) (record_at C' i).step
    old i h = subst (λ R. RecordOk D (number_at C') i (members R.label) R.step) (sym (old_record C N s i h))
        (move D (number_at C) (number_at C') i (members (number_at C i)) (λ j g. ap (λ R. R.label) (old_record C N s j (omega arith))) (record_at C i).step (v.records i h))

    new : RecordOk D (number_at C') (length C) (members (number_at C' (length C))) (record_at C' (length C)).step
    new = subst (λ R. RecordOk D (number_at C') (length C) (members R.label) R.step) (sym (new_record C N s))
        (move D (number_at C) (number_at C') (length C) (members N) (λ j g. ap (λ R. R.label) (old_record C N s j g)) s o)

-- the first m records of a valid list are one
pub cut_valid : (D : Description) (C : Refutation) (m : ℕ) → m ≤ length C → Valid D C → Valid D (take m C)
cut_valid D C m h v = record {
  forms = λ i l. subst (λ R. Formed R.step) (sym (same i (below i l))) (v.forms i (omega (arith, below i l)));
  records = λ i l. subst (λ R. RecordOk D (number_at (take m C)) i (members R.label) R.step) (sym (same i (below i l)))
      (move D (number_at C) (number_at (take m C)) i (members (number_at C i)) (λ j g. ap (λ R. R.label) (same j (omega (arith, g, below i l)))) (record_at C i).step
      (v.records i (omega (arith, below i l))));
}
  where
    below : (i : ℕ) → i < length (take m C) → i < m
    below i l = omega (arith, l, length-take-le m C h)

    same : (i : ℕ) → i < m → record_at (take m C) i ≡ record_at C i
    same i l = get_or-take m C i _ l

-- the label of a set of literals of the table is that set
pub label_is : (n : ℕ) (L : Label) → InTable n L → members (label_of n L) ≡ L
label_is n L t = fun_ext (λ l. same_test _ _ (λ h. ((members_label_of n L l).0 h).1) (λ h. (members_label_of n L l).1 (t l h, h)))

-- ---- the steps
module _ (D : Description) (L : Label) (t : InTable D.entries L) where
  finish : (C : Refutation) (s : Step) (C' : Refutation) → Valid D C' → Extends C C' → Formed s → RecordOk D (number_at C') (length C') L s → Reaches D L C
  finish C s C' v x f o = record {
    list = append C' N s;
    valid = append_valid D C' N s v f (subst (λ M. RecordOk D (number_at C') (length C') M s) (sym is) o);
    extends = record {
      longer = omega (arith, x.longer, length_snoc C' (record { label = N; step = s }));
      keeps = λ i h. ap (λ R. R.label) (old_record C' N s i (omega (arith, x.longer))) ∙ x.keeps i h;
    };
    at = length C';
    at_in = omega (arith, length_snoc C' (record { label = N; step = s }));
    lies = λ l h. subst (λ M. So (M l)) (ap (λ R. members R.label) (new_record C' N s) ∙ is) h;
  }
    where
      N : ℕ
      N = label_of D.entries L

      is : members N ≡ L
      is = label_is D.entries L t

  pub by_contradiction : (l : Literal) → So (L l) → So (L (opposite l)) → Derivable D L
  by_contradiction l p q C v = finish C (contradiction l) C v (extends_refl C) tt
      (record { inside_table = t; cite_ok = t l p; step_holds = (or_l _ _ p, or_l _ _ q); cell_ok = tt; tree_ok = tt })

  -- literal 1: literal 0 counts as in L
  pub by_bottom : So (L (neg 0)) → Derivable D L
  by_bottom p C v = finish C (contradiction (neg 0)) C v (extends_refl C) tt
      (record { inside_table = t; cite_ok = t (neg 0) p; step_holds = (or_l _ _ p, or_r (L (pos 0)) _ (literal_same (pos 0))); cell_ok = tt; tree_ok = tt })

  pub by_conjunction : (e : ℕ) (a b : Literal) → D.entry e ≡ both a b → So (L (pos e)) → Derivable D (plus (plus L a) b) → Derivable D L
  by_conjunction e a b q p d C v = let r = d C v in finish C (conjunction e r.at) r.list r.valid r.extends tt
      (record { inside_table = t; cite_ok = (t (pos e) p, r.at_in); step_holds = (p, (a, b, q, r.lies)); cell_ok = tt; tree_ok = tt })

  pub by_rule_lem : (i : ℕ) → i < D.rules → Derivable D (plus L (D.rule i)) → Derivable D L
  by_rule_lem i h d C v = let r = d C v in finish C (by_rule i r.at) r.list r.valid r.extends tt
      (record { inside_table = t; cite_ok = (h, r.at_in); step_holds = r.lies; cell_ok = tt; tree_ok = tt })

  -- two cites: the second list extends the first
  record Two (C : Refutation) (M N : Label) : Type 0 where
    list : Refutation
    valid : Valid D list
    extends : Extends C list
    first : ℕ
    first_in : first < length list
    first_lies : Within (members (number_at list first)) M
    second : ℕ
    second_in : second < length list
    second_lies : Within (members (number_at list second)) N

  two : (C : Refutation) → Valid D C → (M N : Label) → Derivable D M → Derivable D N → Two C M N
  two C v M N c d = let r = c C v in let s = d r.list r.valid in record {
    list = s.list;
    valid = s.valid;
    extends = extends_trans C r.list s.list r.extends s.extends;
    first = r.at;
    first_in = omega (arith, r.at_in, s.extends.longer);
    first_lies = rw (s.extends.keeps r.at r.at_in) r.lies;
    second = s.at;
    second_in = s.at_in;
    second_lies = s.lies;
  }

  pub by_disjunction : (e : ℕ) (a b : Literal) → D.entry e ≡ both a b → So (L (neg e)) → Derivable D (plus L (opposite a)) → Derivable D (plus L (opposite b)) → Derivable D L
  by_disjunction e a b q p c d C v = let r = two C v (plus L (opposite a)) (plus L (opposite b)) c d in
      finish C (disjunction e r.first r.second) r.list r.valid r.extends tt (record {
        inside_table = t;
        cite_ok = (t (neg e) p, (r.first_in, r.second_in));
        step_holds = (p, (a, b, q, (r.first_lies, r.second_lies)));
        cell_ok = tt;
        tree_ok = tt;
      })

  pub by_cases : (e : ℕ) → e < D.entries → Derivable D (plus L (pos e)) → Derivable D (plus L (neg e)) → Derivable D L
  by_cases e h c d C v = let r = two C v (plus L (pos e)) (plus L (neg e)) c d in
      finish C (case_split e r.first r.second) r.list r.valid r.extends tt
      (record { inside_table = t; cite_ok = (h, (r.first_in, r.second_in)); step_holds = (r.first_lies, r.second_lies); cell_ok = tt; tree_ok = tt })

  -- counting: cells are open, or barred, or one cite each shows them empty; a cell is free if its roles are those of one pair, and open cells are.
  -- Cell i + 1 is number i of the list
  module _ (open? free : ℕ → Bool) (known : ℕ → Label) where
    -- what stands for cell c under a list of records
    abbrev Shows : Refutation → ℕ → Cell → Type 0
    Shows C c unshown = So (open? c)
    Shows C c (cited j) = So (free c) × (j < length C) × Within (members (number_at C j)) (known c)
    Shows C c barred = So (free c) → ⊥

    shows_on : (C C' : Refutation) → Extends C C' → (c : ℕ) (x : Cell) → Shows C c x → Shows C' c x
    shows_on C C' e c unshown h = h
    shows_on C C' e c (cited j) h = (h.0, omega (arith, h.1, e.longer), rw (e.keeps j h.1) h.2)
    shows_on C C' e c barred h = h

    record Cells (C : Refutation) (m : ℕ) : Type 0 where
      list : Refutation
      valid : Valid D list
      extends : Extends C list
      cells : List Cell
      long : length cells ≡ m
      marks : (i : ℕ) → i < m → is_open (get_or cells i unshown) ≡ open? (suc i)
      shows : (i : ℕ) → i < m → Shows list (suc i) (get_or cells i unshown)

    no_cells : (C : Refutation) → Valid D C → Cells C 0
    no_cells C v = record {
      list = C;
      valid = v;
      extends = extends_refl C;
      cells = [];
      long = refl;
      marks = λ i h. absurd (omega arith);
      shows = λ i h. absurd (omega arith);
    }

    -- one cell more, after a list that extends the one so far
    one_cell : (C : Refutation) (m : ℕ) (S : Cells C m) (C' : Refutation) → Valid D C' → Extends S.list C' → (x : Cell) → is_open x ≡ open? (suc m)
        → Shows C' (suc m) x → Cells C (suc m)
    one_cell C m S C' v e x o w = record {
      list = C';
      valid = v;
      extends = extends_trans C S.list C' S.extends e;
      cells = S.cells ++ (x ∷ []);
      long = length_snoc S.cells x ∙ ap suc S.long;
      marks = up_to_lem (λ i. is_open (get_or (S.cells ++ (x ∷ [])) i unshown) ≡ open? (suc i)) m (λ i h. rw (old i h) (S.marks i h)) (rw new o);
      shows = up_to_lem (λ i. Shows C' (suc i) (get_or (S.cells ++ (x ∷ [])) i unshown)) m
          (λ i h. subst (Shows C' (suc i)) (sym (old i h)) (shows_on S.list C' e (suc i) (get_or S.cells i unshown) (S.shows i h)))
          (subst (Shows C' (suc m)) (sym new) w);
    }
      where
        old : (i : ℕ) → i < m → get_or (S.cells ++ (x ∷ [])) i unshown ≡ get_or S.cells i unshown
        old i h = at_snoc_old S.cells x unshown i (omega (arith, S.long))

        new : get_or (S.cells ++ (x ∷ [])) m unshown ≡ x
        new = ap (λ k. get_or (S.cells ++ (x ∷ [])) k unshown) (sym S.long) ∙ at_snoc_new S.cells x unshown

    module _ (open_free : (c : ℕ) → So (open? c) → So (free c)) where
      all_cells : (C : Refutation) → Valid D C → (m : ℕ) → ((i : ℕ) → i < m → So (free (suc i)) → (So (open? (suc i)) → ⊥) → Derivable D (known (suc i))) → Cells C m
      all_cells C v zero d = no_cells C v
      all_cells C v (suc m) d = go (all_cells C v m (λ i h. d i (omega arith))) (decide (free (suc m))) (decide (open? (suc m)))
        where
          go : Cells C m → So (free (suc m)) ⊎ (So (free (suc m)) → ⊥) → So (open? (suc m)) ⊎ (So (open? (suc m)) → ⊥) → Cells C (suc m)
          go S (inr b) o = one_cell C m S S.list S.valid (extends_refl S.list) barred (sym (so_false _ (λ u. b (open_free (suc m) u)))) b
          go S (inl b) (inl o) = one_cell C m S S.list S.valid (extends_refl S.list) unshown (sym o) o
          go S (inl b) (inr o) = let r = d m (omega arith) b o S.list S.valid in
              one_cell C m S r.list r.valid r.extends (cited r.at) (sym (so_false _ o)) (b, r.at_in, r.lies)

      pub by_counting : (lits : List Literal) → ((c : ℕ) → So (free c) ↔ Compatible D (cell_role D (rows_of D lits) c))
          → ((c : ℕ) (l : Literal) → So (known c l) → Known D L (rows_of D lits) c l) → 1 ≤ length lits
          → ((l : Literal) → l ∈ lits → So (L l) × So (is_row (row_of D l)))
          → ((j : ℕ) → j < length lits → suc j < length lits → code (literal_at lits j) < code (literal_at lits (suc j)))
          → ((c : ℕ) → 0 < c → c < 2 ^ length lits → So (free c) → (So (open? c) → ⊥) → Derivable D (known c))
          → (tree : Tree) → So (formed (length lits) tree) → Closed (bounds (rows_of D lits)) open? tree → Derivable D L
      by_counting lits compatible shown some inside rising d tree f closed C v = finish C (counting K) S.list S.valid S.extends
          (some, (omega (arith, S.long, pow_pos (length lits)), f))
          (record {
            inside_table = t;
            cite_ok = (λ l m. t l (inside l m).0, λ c h p j q. (subst (Shows S.list c) q (at c h p)).1);
            step_holds = (inside, rising);
            cell_ok = λ c h p. fits c (cell_at S.cells c) (at c h p);
            tree_ok = tree_open (2 ^ length (bounds (rows_of D lits))) open? (open_at S.cells)
                (λ c h p. opened c (rw (length_bounds (rows_of D lits), length_rows D lits) at h) p) (limits (bounds (rows_of D lits))) tree closed;
          })
        where
          S : Cells C (2 ^ length lits - 1)
          S = all_cells C v (2 ^ length lits - 1) (λ i h. d (suc i) (omega arith) (omega arith))

          K : Counting
          K = record { rows = lits; cells = S.cells; tree = tree }

          -- a cell above 0 by its number in the list
          at : (c : ℕ) → c < 2 ^ length lits → 0 < c → Shows S.list c (cell_at S.cells c)
          at zero h p = absurd (omega arith)
          at (suc i) h p = let e : suc i - 1 ≡ i = omega arith in rw e (S.shows i (omega arith))

          fits : (c : ℕ) (x : Cell) → Shows S.list c x → CellFits D (number_at S.list) (length S.list) L (rows_of D lits) c x
          fits c unshown w = (compatible c).0 (open_free c w)
          fits c (cited j) w = ((compatible c).0 w.0, λ l u. shown c l (w.2 l u))
          fits c barred w = λ a. w ((compatible c).1 a)

          opened : (c : ℕ) → c < 2 ^ length lits → 0 < c → open_at S.cells c ≡ open? c
          opened zero h p = absurd (omega arith)
          opened (suc i) h p = let e : suc i - 1 ≡ i = omega arith in rw e (S.marks i (omega arith))
