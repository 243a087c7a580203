-- What the cells have of the arrays, once these are filled, is the known label of test 18.
use Prim.Native.Nat.{ℕ, ◌+◌, ◌≤◌, ◌<◌}
use Rattle.std.specs.Prelude.{◌≡◌, refl, ◌↔◌, true, false, ◌&&◌, ◌||◌, List, ltb, length}
use Rattle.std.proofs.Common.{sym, ◌∙◌, ap₂, inl, inr, arith, lt-ltb}
use Rattle.std.proofs.Math.Path.{ap, subst}
use Rattle.std.proofs.Math.Bool.{Bool}
use Rattle.std.proofs.Math.Option.{none}
use Rattle.std.proofs.Math.Dec.{eqb}
use Rattle.std.proofs.Math.Decide.{dec_le}
use Rattle.logic.specs.Tests.{So, ◌⇒◌, decide, so_and, and_l, and_r, or_l, or_r, or_cases, so_ltb, ltb_so, so_false, same_test}
use Rattle.logic.specs.Bounded.{any_below, any_elim, any_intro, any_cong}
use Rattle.logic.specs.Lists.{length_tabulate, at_tabulate}
use Rattle.logic.specs.Sums.{only}
use Rattle.logic.specs.Sets.{has}
use Rattle.logic.specs.SetLaws.{no_member, has_lt, single↔, set_of↔, set_of_cong}
use Rattle.parts.specs.Numbers.{byte_at, up_to, up_to_all, up_to_most}
use Rattle.labels.specs.declared.Label.{Label}
use Rattle.description.specs.Literals.{opposite, code}
use Rattle.description.specs.Descriptions.{entry_of_fields}
use Rattle.tables.specs.Tables.{fields_at}
use Rattle.tables.specs.Tables.{entry_count}
use Rattle.refutation.specs.Cells.{Row, row_at, row_from}
use Rattle.refutation.specs.RecordTests.{cell_fits}
use Rattle.roles.specs.Disjoint.{compatible_by}
use Rattle.list_form.specs.ListForm.{cell_of}
use Rattle.cell_walk.specs.Walks.{row_gives, roles_in}
use Rattle.rows.specs.declared.Row as Held
use Rattle.rows.specs.HeldRows.{given, held_at, rows_held}
use Rattle.cell_labels.specs.CellShows.{room, every_shows, carried_at}
use Rattle.cell_labels.specs.CellLaws.{is_every↔}
use Rattle.cell_labels.specs.CellRows.{SixOf, mask_at, label_at, Masks, Labels, above_of, bit_of, shows_own, shown_by, denied_by, gives, gathered_by}
use Rattle.list_cells.specs.CellSteps.{row_role, role_of, row_shows, known_in, answer_with, cell_fine}
use Rattle.list_cells.specs.CellAnswers.{gathered, gathered_on}

-- six elements have no more than six rows, however many are told
few_told : (k n i : ℕ) → n ≡ up_to 6 k → i < 6 → ltb i k ≡ ltb i n
few_told k n i e l = elim (dec_le k 6) [
  | yes h ↦ (let z : n ≡ k = e ∙ up_to_all 6 k h in rw z refl)
  | no h ↦ (let z : n ≡ 6 = e ∙ sym (up_to_most 6 k (omega arith)) in let g : i < k = omega arith in rw (z, lt-ltb i k g, lt-ltb i 6 l) refl)
]

pub six_few : {A : Type 0} {v : A → ℕ} {d : A} {f : ℕ → ℕ} (k n : ℕ) (out : List A) → n ≡ up_to 6 k → SixOf v d f k out → SixOf v d f n out
six_few {A} {v} {d} {f} k n out e s = record { size = s.size; at = λ i l. s.at i l ∙ ap (λ b. only b (f i)) (few_told k n i e l) }

-- a test of some row that is held
any_held : (rows : List Held.Row) (k : ℕ) (p : ℕ → Row → Bool)
    → any_below k (λ i. p i (given (held_at rows i))) ≡ any_below (length (rows_held rows k)) (λ i. p i (row_at (rows_held rows k) i))
any_held rows k p = any_cong k _ _ (λ i h. ap (p i) (sym (at_tabulate k (λ i. given (held_at rows i)) (row_from none) i h)))
    ∙ ap (λ n. any_below n (λ i. p i (row_at (rows_held rows k) i))) (sym (length_tabulate k (λ i. given (held_at rows i))))

-- what is in a number or 0
only_has : (b : Bool) (n l : ℕ) → So (has (only b n) l) → So b × So (has n l)
only_has true n l u = (refl, u)
only_has false n l u = absurd (no_member l u)

module _ (a : List ℕ) (rows : List Held.Row) (k : ℕ) (few : k ≤ 6) (above : List ℕ)
    (B : Masks (λ i. above_of a (given (held_at rows i))) k above) where
  abbrev row : ℕ → Row
  row i = given (held_at rows i)

  below : {i : ℕ} → i < k → i < 6
  below h = omega (arith, h, few)

  -- ---- the roles of a cell
  above↔ : (i t : ℕ) → i < 6 → So (has (mask_at above i) t) ↔ ((i < k) × So (has (above_of a (row i)) t))
  above↔ i t h = (
    λ u. let w = only_has (ltb i k) _ t (subst (λ n. So (has n t)) (B.at i h) u) in (so_ltb i k w.0, w.1),
    λ w. subst (λ n. So (has n t)) (sym (B.at i h)) (rw (ltb_so i k w.0) w.1),
  )

  module _ (c : ℕ) where
    abbrev among : ℕ → Bool
    among = role_of a (rows_held rows k) c

    abbrev of_row : ℕ → ℕ → Bool
    of_row t i = row_role a c t i (row i)

    some_row_lem : (t : ℕ) → any_below k (of_row t) ≡ among t
    unfolding role_of
    some_row_lem t = any_held rows k (row_role a c t)

    by_row : (i t : ℕ) → i < k → So (has c i) → So (has (above_of a (row i)) t) → So (among t)
    by_row i t h v u = sym (some_row_lem t) ∙ any_intro k (of_row t) i h (so_and (has c i) _ v u)

    pub roles_gathered : (t : ℕ) → roles_in above c t ≡ among t
    unfolding roles_in
    roles_gathered t = same_test _ _
        (λ u. let w = any_elim 6 p u in let v = (above↔ w.0 t w.1).0 (and_r (has c w.0) _ w.2) in
        by_row w.0 t v.0 (and_l (has c w.0) _ w.2) v.1)
        (λ u. let w = any_elim k (of_row t) (some_row_lem t ∙ u) in
        any_intro 6 p w.0 (below w.1) (so_and (has c w.0) _ (and_l (has c w.0) _ w.2) ((above↔ w.0 t (below
        w.1)).1 (w.1, and_r (has c w.0) _ w.2))))
      where
        p : ℕ → Bool
        p = row_gives above c t

  -- ---- what a cell shows
  module _ (cs : List ℕ) (N : ℕ) (shown : List Label) (against own : List ℕ)
      (S : Labels (λ i. shown_by cs a N (carried_at cs a N) (given (held_at rows i))) k shown)
      (G : Masks (λ i. denied_by (given (held_at rows i))) k against)
      (O : Masks (λ i. bit_of (given (held_at rows i))) k own)
      (words : (i : ℕ) → i < 6 → mask_at above i < 65536) where
    -- the entries that are carried on
    abbrev on : ℕ → Bool
    on = carried_at cs a N

    -- an element of each array, with what is in it
    shown↔ : (i l : ℕ) → i < 6 → So (has (label_at shown i) l) ↔ ((i < k) × (l < room) × So (shows_own cs a N on (row i) l))
    unfolding shown_by
    shown↔ i l h = (
      λ u. let w = only_has (ltb i k) _ l (subst (λ n. So (has n l)) (S.at i h) u) in
          let v = (set_of↔ room (shows_own cs a N on (row i)) l).0 w.1 in (so_ltb i k w.0, v.0, v.1),
      λ w. subst (λ n. So (has n l)) (sym (S.at i h))
          (rw (ltb_so i k w.0) ((set_of↔ room (shows_own cs a N on (row i)) l).1 (w.1, w.2))),
    )

    against_at : (i : ℕ) → i < k → mask_at against i ≡ code (opposite (row i).qualifier)
    against_at i h = rw (ltb_so i k h) at (G.at i (omega arith))

    own↔ : (i t : ℕ) → i < 6 → So (has (mask_at own i) t) ↔ ((i < k) × ((row i).role < 16) × (t ≡ (row i).role))
    own↔ i t h = (
      λ u. let w = only_has (ltb i k) _ t (subst (λ n. So (has n t)) (O.at i h) u) in
          let v = only_has (ltb (row i).role 16) _ t w.1 in
          (so_ltb i k w.0, so_ltb (row i).role 16 v.0, (single↔ (row i).role t).0 v.1),
      λ w. subst (λ n. So (has n t)) (sym (O.at i h)) (rw (ltb_so i k w.0, ltb_so (row i).role 16 w.1) ((single↔
          (row i).role t).1 w.2)),
    )

    -- ---- one cell
    module _ (c : ℕ) where
      -- the roles of a cell fit into a mask
      role_fits : (t : ℕ) → So (among c t) → t < 16
      unfolding roles_in
      role_fits t u = let w = any_elim 6 (row_gives above c t) (roles_gathered c t ∙ u) in
          has_lt 16 (mask_at above w.0) t (words w.0 w.1) (and_r (has c w.0) _ w.2)

      -- what the rows of the arrays show, and what the rows and the entries show
      module _ (l : ℕ) (inside : l < room) where
        abbrev given_by : ℕ → Bool
        given_by = gives (roles_in above c) own shown against c l

        abbrev by_rows : ℕ → Bool
        by_rows i = row_shows (among c) c l i (row i)

        abbrev by_entries : ℕ → Bool
        by_entries = every_shows cs N on (among c) l

        abbrev reached : ℕ → ℕ → Bool
        reached i t = roles_in above c t && has (mask_at own i) t

        -- an entry shows by a role of the cell what it shows by the row that has it
        entry_out : (i f : ℕ) → i < k → So (has c i) → So (every_shows cs N on (has (above_of a (row i))) l f) → So (by_entries f)
        entry_out i f h v u = let w = (is_every↔ _ (entry_of_fields (fields_at cs f))).0 u in let t = w.0 in
            (is_every↔ _ (entry_of_fields (fields_at cs f))).1 (
              t,
              w.1,
              w.2,
              so_and (among c t) _
                  (by_row c i t h v (and_l (has (above_of a (row i)) t) _ w.3)) (and_r (has (above_of a (row i)) t) _ w.3),
            )

        entry_back : (f : ℕ) → So (by_entries f) → (i : ℕ) × (i < k) × So (has c i) × So (every_shows cs N on (has (above_of a (row i))) l f)
        entry_back f u = let w = (is_every↔ _ (entry_of_fields (fields_at cs f))).0 u in let t = w.0 in
            let v = any_elim k (of_row c t) (some_row_lem c t ∙ and_l (among c t) _ w.3) in let i = v.0 in (
              i,
              v.1,
              and_l (has c i) _ v.2,
              (is_every↔ _ (entry_of_fields (fields_at cs f))).1 (
                t,
                w.1,
                w.2,
                so_and (has (above_of a (row i)) t) _
                    (and_r (has c i) _ v.2) (and_r (among c t) _ w.3),
              ),
            )

        row_out : (i : ℕ) → i < 6 → So (given_by i) → So (any_below k by_rows || any_below (entry_count cs) by_entries)
        row_out i h u = elim (decide (has c i)) [
          | inl v ↦ (let w = (shown↔ i l h).0 (rw v at u) in elim (or_cases (eqb (code (row i).qualifier) l) _ w.2) [
            | inl x ↦ or_l (any_below k by_rows) _ (any_intro k by_rows i w.0 (rw v x))
            | inr x ↦ (let y = any_elim (entry_count cs) (every_shows cs N on (has (above_of a (row i))) l) x in
                or_r (any_below k by_rows) _ (any_intro (entry_count cs) by_entries y.0 y.1 (entry_out i y.0 w.0 v y.2)))
          ])
          | inr v ↦ (let z = rw (so_false _ v) at u in let y = any_elim 16 (reached i) (and_l (any_below 16 (reached i)) _ z) in
              let t = y.0 in
              let o = (own↔ i t h).0 (and_r (roles_in above c t) _ y.2) in
              let q : So (eqb (code (opposite (row i).qualifier)) l) = subst (λ n. So (eqb n l)) (against_at i o.0) (and_r
              (any_below 16 (reached i)) _ z) in
              let m : So (among c (row i).role) = subst (λ t. So (among c t)) o.2 (sym (roles_gathered c t)
              ∙ and_l (roles_in above c t) _ y.2) in
              or_l (any_below k by_rows) _ (any_intro k by_rows i o.0 (rw (so_false _ v) (so_and (among c (row i).role) _ m q))))
        ]

        row_back : (i : ℕ) → i < k → So (by_rows i) → So (given_by i)
        row_back i h u = elim (decide (has c i)) [
          | inl v ↦ rw v ((shown↔ i l (below h)).1 (h, inside, or_l (eqb (code (row i).qualifier) l) _ (rw v at u)))
          | inr v ↦ (let z = rw (so_false _ v) at u in let r = (row i).role in let m = and_l (among c r) _ z in
              rw (so_false _ v) (so_and (any_below 16 (reached i)) _
              (any_intro 16 (reached i) r (role_fits r m) (so_and (roles_in above c r) _ (roles_gathered c r
              ∙ m) ((own↔ i r (below h)).1 (h, role_fits r m, refl))))
              (subst (λ n. So (eqb n l)) (sym (against_at i h)) (and_r (among c r) _ z))))
        ]

        same_shown : any_below 6 given_by ≡ (any_below k by_rows || any_below (entry_count cs) by_entries)
        same_shown = same_test _ _ (λ u. let w = any_elim 6 given_by u in row_out w.0 w.1 w.2)
            (λ u. elim (or_cases (any_below k by_rows) _ u) [
              | inl v ↦ (let w = any_elim k by_rows v in any_intro 6 given_by w.0 (below w.1) (row_back w.0 w.1 w.2))
              | inr v ↦ (let w = any_elim (entry_count cs) by_entries v in let y = entry_back w.0 w.2 in let i = y.0 in
                  any_intro 6 given_by i (below y.1) (rw y.2 ((shown↔ i l (below y.1)).1 (
                    y.1,
                    inside,
                    or_r (eqb (code (row i).qualifier) l) _
                        (any_intro (entry_count cs) (every_shows cs N on (has (above_of a (row i))) l) w.0 w.1 y.3),
                  ))))
            ])

      pub known_gathered : gathered above own shown against c ≡ known_in cs a N on (rows_held rows k) c
      unfolding gathered_by known_in
      known_gathered = set_of_cong room _ _ (λ l h. ap (λ b. eqb 0 l || b) (same_shown l h
          ∙ ap (λ b. b || any_below (entry_count cs) (every_shows cs N on (among c) l)) (any_held rows k (row_shows (among c) c l))))

    -- ---- the cells
    module _ (marks : Bool) (num : ℕ → ℕ) (ds : List ℕ) where
      -- the test of a cell by the arrays is that by the rows, where k is m
      pub cell_told : (m : ℕ) → k ≡ m → (c : ℕ)
          → gathered_on marks a num above own shown against ds k c ≡ cell_fine marks cs a num N (rows_held rows m) ds m c
      cell_told m e c =
          subst (λ m. gathered_on marks a num above own shown against ds k c ≡ cell_fine marks cs a num N (rows_held rows m) ds m c) e
          (ap₂ (λ r M. ltb 0 c ⇒ cell_fits num (answer_with (compatible_by a r) M) (cell_of marks (byte_at ds (1 + k + c))))
          (set_of_cong 16 _ _ (λ t _. roles_gathered c t)) (known_gathered c))
