-- A type whose rows have a solution over the cells that some remaining type contains is a node of a graph over the remaining types.
use Rattle.std.specs.Prelude.{ℕ, zero, suc, ◌+◌, ◌-◌, ◌^◌, ◌≤◌, ◌<◌, ◌≡◌, refl, ◌↔◌, ◌⊎◌, Bool, true, false, cond, not, ◌&&◌, List, ltb, length}
use Rattle.std.proofs.Common.{sym, ◌∙◌, ap, subst, inl, inr, arith}
use Rattle.std.proofs.lemmas.Bool.{false≢true}
use Rattle.std.proofs.Math.Option.{some}
use Rattle.std.proofs.Math.Decide.{dec_le}
use Rattle.logic.specs.Tests.{So, decide, so_and, and_l, and_r, so_not, not_so, so_false, so_ltb, same_test}
use Rattle.logic.specs.Bounded.{any_intro, any_elim}
use Rattle.logic.specs.Lists.{◌∈◌}
use Rattle.logic.specs.Sums.{sum_below, sum_cong, only, only_on, only_off, only_le, only_zero}
use Rattle.logic.specs.Sets.{has, set_of}
use Rattle.logic.specs.SetLaws.{set_of↔, some_member, has_lt}
use Rattle.counting.specs.Trees.{Side, lower, upper, Meets, live}
use Rattle.counting.specs.Rows.{Bound, bound_at, Solves}
use Rattle.description.specs.Literals.{Literal, pos, neg, opposite, entry_of, Label, InTable}
use Rattle.description.specs.Descriptions.{Entry, top, name, both, every, at_least, Description, Compatible}
use Rattle.description.specs.Roles.{ancestor, anc_refl}
use Rattle.description.proofs.Roles.{anc_in, anc_trans}
use Rattle.description.specs.Acceptance.{Accepted, fields_at_lem}
use Rattle.graph.specs.Graphs.{Edge, of_role, total, counted, LabelOk, BothOk, EdgeOk, NodeOk}
use Rattle.refutation.specs.Cells.{Row, positive_row, negative_row, row_of, is_row, row_from, rows_of, row_at, bounds, RowIn, cell_role, Known, qualified, denied, passed, onward, length_rows, length_bounds, bound_at_lem, row_at_lem}
use Rattle.completeness.specs.Types.{chosen, typ, pos_in, neg_in, pos_out, neg_out, typ_in, typ_full, typ_one}
use Rattle.completeness.specs.TypeRows.{edges_below, edge_of_cell, edges_total, total_some}
use Rattle.counting.specs.Trees as Trees

module _ (D : Description) (A : Accepted D) (p : ℕ → Bool) (size : ℕ) (lab : ℕ → ℕ → Bool) (rows : List Row)
    (row_in : (i : ℕ) → i < length rows → RowIn D (row_at rows i)) (open? : ℕ → Bool) (x : ℕ → ℕ)
    (solves : (i : ℕ) → i < length rows
    → Meets (row_at rows i).side (row_at rows i).bound (Trees.total (2 ^ length rows) open? x (λ c. has c i)))
    (pick : ℕ → ℕ) (pick-in : (c : ℕ) → c < 2 ^ length rows → So (live open? c) → pick c < size)
    (pick-has : (c : ℕ) → c < 2 ^ length rows → So (live open? c) → (l : Literal)
    → Known D (typ D.entries p) rows c l → So (typ D.entries (lab (pick c)) l))
    (free : (c : ℕ) → So (live open? c) → Compatible D (cell_role D rows c)) where
  abbrev n : ℕ
  n = D.entries

  abbrev cells : ℕ
  cells = 2 ^ length rows

  abbrev L : Label
  L = typ n p

  abbrev target : ℕ → Label
  target t = typ n (lab t)

  abbrev roles : ℕ → ℕ → Bool
  roles c = cell_role D rows c

  -- the edge of a cell: a type over its known label, its roles, its size
  abbrev edge : ℕ → Edge
  edge c = record { target = pick c; mask = set_of D.roles (roles c); count = only (live open? c) (x c) }

  abbrev es : List Edge
  es = edges_below edge cells

  -- ---- a cell's roles
  roles_inside : (c r : ℕ) → So (roles c r) → r < D.roles
  unfolding cell_role
  roles_inside c r u = let w = any_elim (length rows) _ u in
      anc_in D A.parents_in (row_at rows w.0).role r (row_in w.0 w.1).0 (and_r (has c w.0) _ w.2)

  roles_up : (c r s : ℕ) → So (roles c r) → So (ancestor D r s) → So (roles c s)
  unfolding cell_role
  roles_up c r s u a = let w = any_elim (length rows) _ u in
      any_intro (length rows) (λ i. has c i && ancestor D (row_at rows i).role s) w.0 w.1 (so_and _ _ (and_l (has c w.0) _ w.2)
      (anc_trans D A.parents_in (row_at rows w.0).role r s (row_in w.0 w.1).0 (and_r (has c w.0) _ w.2) a))

  roles_own : (c i : ℕ) → i < length rows → So (has c i) → So (roles c (row_at rows i).role)
  unfolding cell_role
  roles_own c i h b = any_intro (length rows) (λ j. has c j && ancestor D (row_at rows j).role (row_at rows i).role) i h (so_and _ _ b (anc_refl D (row_at rows i).role))

  mask↔ : (c r : ℕ) → So (of_role r (edge c)) ↔ So (roles c r)
  mask↔ c r = (λ u. ((set_of↔ D.roles (roles c) r).0 u).1, λ u. (set_of↔ D.roles (roles c) r).1 (roles_inside c r u, u))

  -- an edge is that of an open cell with fillers
  of_cell : (P : Edge → Type 0) → ((c : ℕ) → c < cells → So (live open? c) → 1 ≤ x c → P (edge c)) → (E : Edge) → E ∈ es → P E
  of_cell P f E m = let w = edge_of_cell edge cells E m in subst P (sym w.3) (f w.0 w.1 (opened w.0 w.2) (omega (arith, w.2, only_le (live open? w.0) (x w.0))))
    where
      opened : (c : ℕ) → 1 ≤ only (live open? c) (x c) → So (live open? c)
      opened c h = elim (decide (live open? c)) [ inl u ↦ u | inr u ↦ absurd (omega (arith, only_off (live open? c) (x c) u)) ]

  -- ---- the counts over a row's edges are the row's total
  abbrev in_row : ℕ → Edge → Bool
  in_row i E = of_role (row_at rows i).role E && target E.target (row_at rows i).qualifier

  in_row↔ : (c i : ℕ) → c < cells → So (live open? c) → i < length rows → in_row i (edge c) ≡ has c i
  in_row↔ c i h o l = same_test _ _
      (λ u. elim (decide (has c i)) [
        | inl b ↦ b
        | inr b ↦ absurd (typ_one n (lab (pick c)) (row_at rows i).qualifier (and_r (of_role (row_at rows i).role (edge c)) _ u)
            (pick-has c h o (opposite (row_at rows i).qualifier) (denied i l (so_not _ b) ((mask↔ c (row_at rows i).role).0 (and_l _ _ u)))))
      ])
      (λ b. so_and _ _ ((mask↔ c (row_at rows i).role).1 (roles_own c i l b)) (pick-has c h o (row_at rows i).qualifier (qualified i l b)))

  row_total : (i : ℕ) → i < length rows → total es (in_row i) ≡ Trees.total cells open? x (λ c. has c i)
  row_total i h = edges_total edge (in_row i) cells
      ∙ sum_cong cells _ (λ c. only (live open? c && has c i) (x c)) (λ c l. part c l (decide (live open? c)))
    where
      part : (c : ℕ) → c < cells → So (live open? c) ⊎ (So (live open? c) → ⊥)
          → only (in_row i (edge c)) (only (live open? c) (x c)) ≡ only (live open? c && has c i) (x c)
      part c l (inl o) = rw (in_row↔ c i l o h, o) refl
      part c l (inr o) = rw (so_false _ o) (only_zero (in_row i (edge c)))

  row_met : (i : ℕ) (R : Row) → i < length rows → row_at rows i ≡ R → Meets R.side R.bound (counted target es R.role R.qualifier)
  row_met i R h q = subst (λ R. Meets R.side R.bound (counted target es R.role R.qualifier)) q (rw (row_total i h) (solves i h))

  -- ---- the node
  solved_node : (W : List Literal) → LabelOk D W L → BothOk D L
      → ((e : ℕ) → e < n → So (is_row (row_of D (chosen p e))) → (i : ℕ) × (i < length rows) × (row_at rows i ≡ row_from (row_of D (chosen p e))))
      → NodeOk D size target W L es
  solved_node W lok bok there = record {
    label_ok = lok;
    both_ok = bok;
    edges_ok = of_cell (EdgeOk D size) (λ c h o g. record {
      target_in = pick-in c h o;
      some_role = let w = some_member c (so_ltb 0 c (and_l (ltb 0 c) (open? c) o)) in
          let i = has_lt (length rows) c w.0 h w.1 in ((row_at rows w.0).role, (mask↔ c (row_at rows w.0).role).1 (roles_own c w.0 i w.1));
      roles_inside = λ r u. roles_inside c r ((mask↔ c r).0 u);
      roles_up = λ r _ u s _ a. (mask↔ c s).1 (roles_up c r s ((mask↔ c r).0 u) a);
      roles_compatible = λ i hi u v. free c o i hi ((mask↔ c (D.disjoint i).one).0 u) ((mask↔ c (D.disjoint i).other).0 v);
      some_copy = omega (arith, only_on (live open? c) (x c) o);
    });
    every_ok = λ e he r l q. (
      λ u. of_cell (λ E. So (of_role r E) → _) (λ c h o g k. (
        pick-has c h o l (passed e r l he u q ((mask↔ c r).0 k)),
        λ t ht tr kt a f hf qf. pick-has c h o (pos f) (onward e r l t f he u q ht tr ((mask↔ c t).0 kt) a hf qf),
      )),
      λ u. let w = total_some es (λ E. of_role r E && target E.target (opposite l))
          (met e _ he (negative e u ∙ ap negative_row q)) in
          (w.0, w.1, (and_l _ _ w.2, and_r (of_role r w.0) _ w.2)),
    );
    count_ok = λ e he r l k q. let f = fields_at_lem D A e (at_least r l k) he q in (
      λ u. met e _ he (positive e u ∙ ap positive_row q),
      λ u. (
        omega (arith, met e _ he (negative e u ∙ ap negative_row q), f.1.0),
        λ E m v. typ_full n (lab E.target) l (omega (arith, f.0.1)),
      ),
    );
  }
    where
      -- the row of the type's own literal is met
      met : (e : ℕ) (R : Row) → e < n → row_of D (chosen p e) ≡ some R → Meets R.side R.bound (counted target es R.role R.qualifier)
      met e R he q = let w = there e he (rw q refl) in row_met w.0 R w.1 (w.2 ∙ ap row_from q)

      positive : (e : ℕ) → So (L (pos e)) → row_of D (chosen p e) ≡ positive_row (D.entry e)
      positive e u = ap (λ b. row_of D (cond b (pos e) (neg e))) (pos_out n p e u)

      negative : (e : ℕ) → So (L (neg e)) → row_of D (chosen p e) ≡ negative_row (D.entry e)
      negative e u = ap (λ b. row_of D (cond b (pos e) (neg e))) (so_false (p e) (not_so (p e) (neg_out n p e u)))

  -- its edges lead to the types picked for open cells
  pub solved : (W : List Literal) → LabelOk D W L → BothOk D L
      → ((e : ℕ) → e < n → So (is_row (row_of D (chosen p e))) → (i : ℕ) × (i < length rows) × (row_at rows i ≡ row_from (row_of D (chosen p e))))
      → (es : List Edge) × NodeOk D size target W L es × ((E : Edge) → E ∈ es → (c : ℕ) × So (live open? c) × (E.target ≡ pick c))
  solved W lok bok there = (
    es,
    solved_node W lok bok there,
    of_cell (λ E. (c : ℕ) × So (live open? c) × (E.target ≡ pick c)) (λ c h o g. (c, o, refl)),
  )
