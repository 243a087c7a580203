-- The bytes of a step behind its label: that they are read back, and that they are written again as they were read.
use Prim.Native.Nat.{ℕ, zero, suc, ◌+◌, ◌-◌, ◌^◌, ◌≤◌, ◌<◌}
use Rattle.std.specs.Prelude.{◌≡◌, Bool, true, false, cond, ◌&&◌, eqb, length}
use Rattle.std.proofs.Math.Path.{refl}
use Rattle.std.proofs.Common.{sym, ◌∙◌, ap, subst, arith, le-leb, eq-eqb, ne_eqb, length-append}
use Rattle.std.proofs.lemmas.Bool.{false≢true, eqb-false}
use mathlib.Core.List.{List, [], ◌∷◌, ◌++◌, map}
use Rattle.std.proofs.Math.Option.{none, some, none-ne-some}
use Rattle.std.proofs.Math.Dec.{leb}
use Rattle.std.proofs.lemmas.List.{length-map}
use Rattle.logic.specs.Tests.{so_leb, so_eqb, and_r}
use Rattle.logic.specs.Lists.{length_tabulate, at_member}
use Rattle.logic.specs.Refusals.{unless↔}
use Rattle.parts.specs.Numbers.{byte_at}
use Rattle.counting.specs.Trees.{depth}
use Rattle.description.specs.Literals.{Literal, pos, code, literal, literal_code, code_literal}
use Rattle.refutation.specs.Records.{Cell, unshown, cited, barred, Counting, Step, contradiction, conjunction, disjunction, by_rule, case_split, counting, FormOk, FormFits}
use Rattle.refutation.specs.RecordTests.{stored_refutation, when_counting, form_test, record_form}
use Rattle.refutation.proofs.RecordTests.{form↔}
use Rattle.list_form.specs.ListForm.{Placed, and_then, given, bytes_at, tree_in, most_depth, tree_at, cell_of, counting_in, sized, step_of, step_in}
use Rattle.laying.specs.Places.{Stands, stands_end, first, second, stands_none, stands_append, stands_more, stands_whole, at_map, Byte, Small, small_none, small_more, small_append, small_at, each_map, each_value}
use Rattle.encoding.specs.Trees.{encode_tree}
use Rattle.encoding.proofs.Trees.{bytes_back, bytes_again, tree_back, tree_small, and_then_lem, given_there, Again, tree_again}
use Rattle.encoding.specs.Steps.{encode_cell, encode_step, CellWidth, CountingWidth, StepWidth}

-- ---- read back
cell_back : (marks : Bool) (x : Cell) → CellWidth marks x → cell_of marks (encode_cell x) ≡ x
cell_back marks unshown h = refl
cell_back true (cited j) h = let y : j ≡ 255 → ⊥ = λ e. omega arith in let z : j ≡ 254 → ⊥ = λ e. omega arith in
    rw (ne_eqb j 255 y, ne_eqb j 254 z) refl
cell_back false (cited j) h = let z : j ≡ 255 → ⊥ = λ e. omega arith in rw (ne_eqb j 255 z) refl
cell_back true barred h = refl
cell_back false barred h = absurd (false≢true h)

-- what 10 says of a counting step
counting_form : (K : Counting) → record_form stored_refutation (counting K) ≡ none → FormOk K × FormFits stored_refutation K
counting_form K e = (form↔ stored_refutation (some K)).0 ((unless↔ (when_counting (form_test stored_refutation) (some K)) 10 none).0 e).0

counting_back : (marks : Bool) (K : Counting) → FormOk K → FormFits stored_refutation K → CountingWidth marks K
    → counting_in marks (encode_step (counting K)) (length K.rows) ≡ some (counting K)
unfolding encode_step counting_in
counting_back marks K f g w = let e : 2 ^ k - 1 ≡ length K.cells = omega (arith, f.1) in
    let room : 2 + k + length K.cells ≤ length s = omega (arith, tree_here.inside) in
    rw (
      le-leb 1 k f.0,
      le-leb k 6 (so_leb k 6 g.0),
      e,
      le-leb _ _ room,
      tree_back s K.tree 8 k (2 + k + length K.cells) tree_here f.1.1 (so_leb (depth K.tree) 8 g.1),
      eq-eqb _ _ whole,
      rows_back,
      cells_back,
    ) refl
  where
    k : ℕ
    k = length K.rows

    behind : List ℕ
    behind = map encode_cell K.cells ++ encode_tree K.tree

    s : List ℕ
    s = encode_step (counting K)

    rows_here : Stands s 2 (map code K.rows)
    rows_here = first (map code K.rows) behind (stands_end (6 ∷ k ∷ []) (map code K.rows ++ behind))

    behind_here : Stands s (2 + k) behind
    behind_here = rw (length-map K.rows code) at (second (map code K.rows) behind (stands_end (6 ∷ k ∷ []) (map code K.rows ++ behind)))

    cells_here : Stands s (2 + k) (map encode_cell K.cells)
    cells_here = first (map encode_cell K.cells) (encode_tree K.tree) behind_here

    tree_here : Stands s (2 + k + length K.cells) (encode_tree K.tree)
    tree_here = rw (length-map K.cells encode_cell) at (second (map encode_cell K.cells) (encode_tree K.tree) behind_here)

    rows_back : bytes_at literal s 2 k ≡ K.rows
    rows_back = bytes_back literal (pos 0) (map code K.rows) K.rows rows_here (length-map K.rows code)
        (λ i h. ap literal (at_map code K.rows (pos 0) 0 i h) ∙ literal_code _)

    cells_back : bytes_at (cell_of marks) s (2 + k) (length K.cells) ≡ K.cells
    cells_back = bytes_back (cell_of marks) unshown (map encode_cell K.cells) K.cells cells_here (length-map K.cells encode_cell)
        (λ i h. ap (cell_of marks) (at_map encode_cell K.cells unshown 0 i h)
        ∙ cell_back marks _ (w.cells_fit _ (at_member K.cells unshown i h)))

    whole : 2 + k + length K.cells + length (encode_tree K.tree) ≡ length s
    whole = omega (arith, length-append (map code K.rows) behind, length-append (map encode_cell K.cells) (encode_tree K.tree), length-map K.rows code, length-map K.cells encode_cell)

-- a step of the right form is read
pub step_back : (marks : Bool) (x : Step) → record_form stored_refutation x ≡ none → StepWidth marks x → step_in marks (encode_step x) ≡ some x
unfolding encode_step step_of
step_back marks (contradiction l) f w = ap (λ m. some (contradiction m)) (literal_code l)
step_back marks (conjunction e c) f w = refl
step_back marks (disjunction e c d) f w = refl
step_back marks (by_rule q c) f w = refl
step_back marks (case_split e c d) f w = refl
step_back marks (counting K) f w = let h = counting_form K f in counting_back marks K h.0 h.1 w

-- it is bytes
pub step_small : (marks : Bool) (x : Step) → record_form stored_refutation x ≡ none → StepWidth marks x → Small (encode_step x)
unfolding encode_step
step_small marks (contradiction l) f w = small_more (omega arith) (small_more w small_none)
step_small marks (conjunction e c) f w = small_more (omega arith) (small_more w.0 (small_more w.1 small_none))
step_small marks (disjunction e c d) f w = small_more (omega arith) (small_more w.0 (small_more w.1 (small_more w.2 small_none)))
step_small marks (by_rule q c) f w = small_more (omega arith) (small_more w.0 (small_more w.1 small_none))
step_small marks (case_split e c d) f w = small_more (omega arith) (small_more w.0 (small_more w.1 (small_more w.2 small_none)))
step_small marks (counting K) f w = let few = so_leb (length K.rows) 6 (counting_form K f).1.0 in
    small_more (omega arith) (small_more (omega arith) (small_append (map code K.rows) (each_map Byte code K.rows w.rows_fit)
    (small_append (map encode_cell K.cells) (each_map Byte encode_cell K.cells (λ x m. cell_byte marks x (w.cells_fit x m)))
    (tree_small K.tree w.tree_fits))))
  where
    cell_byte : (marks : Bool) (x : Cell) → CellWidth marks x → encode_cell x < 256
    cell_byte marks unshown h = omega arith
    cell_byte true (cited j) h = omega arith
    cell_byte false (cited j) h = omega arith
    cell_byte marks barred h = omega arith

-- ---- written again as it was read
cell_again : (marks : Bool) (n : ℕ) → encode_cell (cell_of marks n) ≡ n
cell_again marks n = go (eqb n 255) refl (marks && eqb n 254) refl
  where
    go : (b : Bool) → eqb n 255 ≡ b → (c : Bool) → (marks && eqb n 254) ≡ c → encode_cell (cond b unshown (cond c barred (cited n))) ≡ n
    go true h c g = sym (so_eqb n 255 h)
    go false h true g = sym (so_eqb n 254 (and_r marks _ g))
    go false h false g = refl

cell_width : (marks : Bool) (n : ℕ) → n < 256 → CellWidth marks (cell_of marks n)
cell_width marks n l = go (eqb n 255) refl (eqb n 254) refl marks
  where
    go : (b : Bool) → eqb n 255 ≡ b → (c : Bool) → eqb n 254 ≡ c → (m : Bool)
        → CellWidth m (cond b unshown (cond (m && c) barred (cited n)))
    go true h c g m = tt
    go false h true g true = refl
    go false h false g true = let y = eqb-false n 255 h in let z = eqb-false n 254 g in omega arith
    go false h c g false = let y = eqb-false n 255 h in omega arith

module _ (marks : Bool) {ds : List ℕ} (b : Small ds) where
  -- the bytes, and their widths
  pub record StepAgain (x : Step) : Type 0 where
    pub same : encode_step x ≡ ds
    pub width : StepWidth marks x

  counting_again : byte_at ds 0 ≡ 6 → (x : Step) → counting_in marks ds (byte_at ds 1) ≡ some x → StepAgain x
  unfolding counting_in encode_step
  counting_again six x e = go (leb 1 k && (leb k 6 && leb (tree_at k) (length ds))) e
    where
      k : ℕ
      k = byte_at ds 1

      rows : List Literal
      rows = bytes_at literal ds 2 k

      cells : List Cell
      cells = bytes_at (cell_of marks) ds (2 + k) (2 ^ k - 1)

      rows_many : length rows ≡ k
      rows_many = length_tabulate k (λ i. literal (byte_at ds (2 + i)))

      cells_many : length cells ≡ 2 ^ k - 1
      cells_many = length_tabulate (2 ^ k - 1) (λ i. cell_of marks (byte_at ds (2 + k + i)))

      made : (t : Placed) → Again b (tree_at k) t → t.end ≡ length ds → StepAgain (counting (record { rows = rows; cells = cells; tree = t.tree }))
      made t a whole =
          let p = length-map rows code in let q = length-map cells encode_cell in
          let c : 2 + length (map code rows) ≡ 2 + k = omega (arith, rows_many) in
          let d : 2 + k + length (map encode_cell cells) ≡ tree_at k = omega (arith, cells_many) in
          let cells_here : Stands ds (2 + k) (map encode_cell cells) =
          bytes_again (cell_of marks) encode_cell (cell_again marks) (2 ^ k - 1) (omega (arith, a.there.inside)) in
          let rows_here : Stands ds 2 (map code rows) = bytes_again literal code code_literal k (omega (arith, a.there.inside)) in
          record {
            same = stands_whole _ (stands_more 6 _ six (stands_more (length rows) _ (sym rows_many)
                (stands_append (map code rows) _ rows_here (rw c (stands_append (map encode_cell cells) _ cells_here (rw d a.there))))))
                (omega (arith, whole, a.ends, rows_many, cells_many, length-append (map code rows) (map encode_cell cells ++ encode_tree t.tree), length-append (map encode_cell cells) (encode_tree t.tree)));
            width = record {
              rows_fit = each_value (λ l. code l < 256) k (λ i. literal (byte_at ds (2 + i))) (λ i h. rw (code_literal (byte_at ds (2 + i))) (small_at b (2 + i)));
              cells_fit = each_value (CellWidth marks) (2 ^ k - 1) (λ i. cell_of marks (byte_at ds (2 + k + i)))
                  (λ i h. cell_width marks _ (small_at b (2 + k + i)));
              tree_fits = a.width;
            };
          }

      go : (c : Bool) → cond c (and_then (tree_in ds most_depth k (tree_at k)) (λ t. given (eqb t.end (length ds)) (counting (record { rows = rows; cells = cells; tree = t.tree })))) none ≡ some x → StepAgain x
      go true q = let t = and_then_lem (tree_in ds most_depth k (tree_at k)) _ x q in let w = given_there (eqb t.0.end (length ds)) _ x t.2 in
          subst StepAgain w.1 (made t.0 (tree_again b most_depth k (tree_at k) t.0 t.1) (so_eqb _ _ w.0))
      go false q = absurd (none-ne-some x q)

  -- a step of n bytes
  sized_again : (n : ℕ) (y x : Step) → StepWidth marks y → length (encode_step y) ≡ n
      → (length ds ≡ n → Stands ds 0 (encode_step y)) → sized ds n y ≡ some x → StepAgain x
  sized_again n y x w l h e = let t = given_there (eqb (length ds) n) y x e in let z = so_eqb (length ds) n t.0 in
      subst StepAgain t.1 (record { same = stands_whole _ (h z) (l ∙ sym z); width = w })

  from_tag : (tag : ℕ) → byte_at ds 0 ≡ tag → (x : Step) → step_of marks ds tag ≡ some x → StepAgain x
  unfolding step_of encode_step
  from_tag zero q x e = absurd (none-ne-some x e)
  from_tag (suc zero) q x e = sized_again 2 _ x (rw (code_literal (byte_at ds 1)) (small_at b 1)) refl
      (λ z. stands_more 1 _ q (stands_more _ [] (sym (code_literal (byte_at ds 1))) (stands_none (omega arith)))) e
  from_tag (suc (suc zero)) q x e = sized_again 3 _ x (small_at b 1, small_at b 2) refl
      (λ z. stands_more 2 _ q (stands_more _ _ refl (stands_more _ [] refl (stands_none (omega arith))))) e
  from_tag (suc (suc (suc zero))) q x e = sized_again 4 _ x (small_at b 1, small_at b 2, small_at b 3) refl
      (λ z. stands_more 3 _ q (stands_more _ _ refl (stands_more _ _ refl (stands_more _ [] refl (stands_none (omega arith)))))) e
  from_tag (suc (suc (suc (suc zero)))) q x e = sized_again 3 _ x (small_at b 1, small_at b 2) refl
      (λ z. stands_more 4 _ q (stands_more _ _ refl (stands_more _ [] refl (stands_none (omega arith))))) e
  from_tag (suc (suc (suc (suc (suc zero))))) q x e = sized_again 4 _ x (small_at b 1, small_at b 2, small_at b 3) refl
      (λ z. stands_more 5 _ q (stands_more _ _ refl (stands_more _ _ refl (stands_more _ [] refl (stands_none (omega arith)))))) e
  from_tag (suc (suc (suc (suc (suc (suc zero)))))) q x e = counting_again q x e
  from_tag (suc (suc (suc (suc (suc (suc (suc m))))))) q x e = absurd (none-ne-some x e)

  pub step_again : (x : Step) → step_in marks ds ≡ some x → StepAgain x
  step_again x e = from_tag (byte_at ds 0) refl x e
