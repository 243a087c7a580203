-- What the code holds is what the theory names: the limits on the way, a leaf's multipliers, the open cells, the whole test.
use Rattle.std.specs.Prelude as Rust
use Rattle.std.specs.Prelude.{is_some, ℕ, zero, suc, ◌+◌, ◌-◌, ◌^◌, ◌≤◌, ◌<◌, ◌≡◌, Bool, cond, ◌&&◌, List, [], ◌∷◌, ◌++◌, eqb, leb, length, get_or, set, take, drop}
use Rattle.std.proofs.Math.Path.{refl, ap, fun_ext}
use Rattle.std.proofs.Common.{◌∙◌, ap₂, add-one, pow_pos, length-set, get_or-set_same, get_or-set_other, drop-cons}
use Rattle.std.proofs.Math.Bool.{true, false}
use Rattle.std.proofs.Math.Option.{Option, none, some, some-injective, none-ne-some}
use native.Mathlib.Omega.{arith}
use Rattle.std.proofs.Math.Decide.{dec_lt}
use borrow.Author.Tests.{lt-ltb, le-ltb, le-leb, lt-leb}
use Rattle.std.proofs.Math.ListN.{get_or-eq_default}
use Rattle.logic.specs.Tests.{and_l, and_r}
use Rattle.logic.specs.Lists.{tabulate, length_tabulate, at_tabulate, tabulate_cong, tabulate_snoc}
use Rattle.logic.specs.Sets.{has}
use Rattle.parts.specs.Numbers.{byte_at, up_to, up_to_all}
use Rattle.counting.specs.Trees as Counting
use Rattle.counting.specs.Trees.{limit, leaf_test, tree_test}
use Rattle.counting.specs.Rows.{Bound, limits_from, limits, closed_test}
use Rattle.description.specs.Literals.{literal}
use Rattle.refutation.specs.Cells as Theory
use Rattle.refutation.specs.Cells.{bounds, length_bounds}
use Rattle.refutation.specs.Records.{Cell, unshown, cited, barred, is_open, open_at, Counting, as_counting, counting}
use Rattle.list_form.specs.ListForm.{Placed, bytes_at, cell_of, tree_in, tree_at, most_depth, counting_in, and_then, given}
use Rattle.list_form.specs.FormSteps.{node_past}
use Rattle.rows.specs.HeldRows as HeldRows
use Rattle.rows.specs.HeldRows.{held_at, rows_held}
use Rattle.rows.specs.declared.Row.{Row}
use Rattle.list_leaf.specs.declared.Limit.{Limit}
use Rattle.list_leaf.specs.Leaf.{no_limit, limits_held, open_byte, open_cell, few_enough, marked, leaf_over}
use Rattle.list_leaf.specs.OpenLaws.{Among, marks_live, leaf_few}
use Rattle.list_tree.specs.ListTree.{open_in, value_fits, closing, closing_in}
use Rattle.list_tree.specs.TreeSteps.{row_limit, meant, PutBehind, closed_in, end_of}
use Rattle.list_tree.specs.TreeLaws.{closed_same}

-- a part in the middle
pub part_bytes : (ds : List ℕ) (at n : ℕ) → at + n ≤ length ds → take n (drop at ds) ≡ bytes_at (λ b. b) ds at n
unfolding tabulate
part_bytes ds at zero h = refl
part_bytes ds at (suc n) h = rw (drop-cons ds at 0 (omega arith)) (ap₂ ◌∷◌ (ap (byte_at ds) (omega arith))
    (part_bytes ds (suc at) n (omega arith) ∙ tabulate_cong n _ _ (λ i l. ap (byte_at ds) (omega arith))))

-- ---- the limits
-- one limit more in the array: a half of a split
pub put_behind : (way : List Limit) (n : ℕ) (x : Limit) (l : Counting.Limit) → n < 14 → length way ≡ 14
    → meant x ≡ l → PutBehind way n l (set way n x)
put_behind way n x l h s e = record {
  size = simp length-set s;
  held = λ k g. rw (add-one n) (tabulate_snoc n _ ∙ ap₂ (λ xs y. xs ++ (y ∷ []))
      (tabulate_cong n _ _ (λ i q. rw (get_or-set_other way n i x no_limit (λ e. omega arith)) refl))
      (rw (get_or-set_same way n x no_limit (omega arith), le-ltb n k g) e));
}

-- the other half in its place
pub put_again : (way : List Limit) (n : ℕ) (x y : Limit) (l : Counting.Limit) → n < 14 → length way ≡ 14 → meant y ≡ l → PutBehind way n l (set (set way n x) n y)
put_again way n x y l h s e = let p = put_behind (set way n x) n y l h (simp length-set s) e in record {
  size = p.size;
  held = λ k g. p.held k g ∙ ap (λ xs. xs ++ (l ∷ [])) (tabulate_cong n _ _ (λ i q. rw (get_or-set_other way n i x no_limit (λ e. omega arith)) refl));
}

-- an array that holds the rows
limits_of : (k j : ℕ) (f : ℕ → Theory.Row) (g : ℕ → Counting.Limit) → ((i : ℕ) → i < k → g i ≡ limit (f i).side (f i).bound (λ c. has c (j + i)))
    → tabulate k g ≡ limits_from j (bounds (tabulate k f))
unfolding tabulate bounds
limits_of zero j f g h = refl
limits_of (suc k) j f g h = let z : j + 0 ≡ j = omega arith in ap₂ ◌∷◌ (h 0 (omega arith) ∙ rw z refl)
    (limits_of k (suc j) (λ i. f (suc i)) (λ i. g (suc i)) (λ i l. let z : j + suc i ≡ suc j + i = omega arith in h (suc i) (omega arith) ∙ rw z refl))

pub limits_rows : (k : ℕ) (rows : List Row) (way : List Limit) → ((i : ℕ) → i < k → get_or way i no_limit ≡ row_limit (held_at rows i))
    → limits_held k way k ≡ limits (bounds (rows_held rows k))
limits_rows k rows way h = limits_of k 0 _ _ (λ i l. let z : 0 + i ≡ i = omega arith in rw (z, h i l, lt-ltb i k l) refl)

-- ---- a leaf's multipliers
pub leaf_part : (ds : List ℕ) (marks : List Bool) (k n at end : ℕ) (way : List Limit) → k ≤ 6 → k ≤ n → n ≤ 14 → Among k marks → end ≡ at + 1 + n → end ≤ length ds
    → (few_enough k (length (take (end - (at + 1)) (drop (at + 1) ds))) && leaf_over k marks way (take (end - (at + 1)) (drop (at + 1) ds)))
    ≡ leaf_test (2 ^ k) (marked marks) (limits_held k way n) (bytes_at (λ b. b) ds (at + 1) n)
leaf_part ds marks k n at end way h g f a e l = let z : end - (at + 1) ≡ n = omega arith in
    rw (z, part_bytes ds (at + 1) n (omega arith), length_tabulate n (λ i. byte_at ds (at + 1 + i)), le-leb k 6 h, le-leb k n g, le-leb n 14 f)
    (leaf_few k marks (limits_held k way n) (bytes_at (λ b. b) ds (at + 1) n) h a)

-- ---- the open cells: a byte is that of one or not, whatever the others stand for
open_part : (marks : Bool) (ds : List ℕ) (at n : ℕ) → open_byte (bytes_at (λ b. b) ds at n) ≡ open_at (bytes_at (cell_of marks) ds at n)
open_part marks ds at n = fun_ext (λ c. go c (dec_lt (c - 1) n))
  where
    bytes : List ℕ
    bytes = bytes_at (λ b. b) ds at n

    cells : List Cell
    cells = bytes_at (cell_of marks) ds at n

    one : (b : ℕ) (o m : Bool) → o ≡ is_open (cond o unshown (cond m barred (cited b)))
    one b true m = refl
    one b false true = refl
    one b false false = refl

    go : (c : ℕ) → Dec (c - 1 < n) → eqb (get_or bytes (c - 1) 255) 255 ≡ is_open (get_or cells (c - 1) unshown)
    go c (yes l) = let b = byte_at ds (at + (c - 1)) in
        rw (at_tabulate n (λ i. byte_at ds (at + i)) 255 (c - 1) l, at_tabulate n (λ i. cell_of marks (byte_at ds (at + i))) unshown (c - 1) l)
        (one b (eqb b 255) (marks && eqb b 254))
    go c (no l) = let u = length_tabulate n (λ i. byte_at ds (at + i)) in
        let w = length_tabulate n (λ i. cell_of marks (byte_at ds (at + i))) in
        let p : length bytes ≤ c - 1 = omega (arith, u) in let q : length cells ≤ c - 1 = omega (arith, w) in
        rw (get_or-eq_default bytes 255 p, get_or-eq_default cells unshown q) refl

-- ---- the whole test
-- the number of cells, of at most 6 rows
pub cells_told : (k r : ℕ) → k ≤ 6 → r ≡ 2 ^ up_to 6 k → (r ≡ 2 ^ k) × (1 ≤ r)
cells_told k r h e = let z : r ≡ 2 ^ k = e ∙ ap (λ n. 2 ^ n) (up_to_all 6 k h) in (z, rw z (pow_pos k))

module _ (rows : List Row) (ds : List ℕ) (k : ℕ) where
  abbrev those : List Bound
  those = bounds (rows_held rows k)

  pub closing_many : 6 < k → false ≡ closing_in those ds k
  unfolding closing_in
  closing_many h = rw (lt-leb k 6 h) refl

  pub closing_cut : k ≤ 6 → length ds < tree_at k → false ≡ closing_in those ds k
  unfolding closing_in tree_in
  closing_cut h c = rw (le-leb k 6 h, ← node_past ds k (tree_at k) (omega arith)) refl

  module _ (way : List Limit) (start : ℕ) (q : Rust.Option ℕ) (h : k ≤ 6) (s : start ≡ tree_at k) (l : start ≤ length ds) (e : limits_held k way k ≡ limits those) where
    -- the bytes of the cells
    abbrev cells : List ℕ
    cells = take (start - (2 + k)) (drop (2 + k) ds)

    closing_ends : q ≡ end_of (closed_in ds k (open_byte cells) most_depth k (limits_held k way k) start) → is_some q ≡ closing_in those ds k
    unfolding closing_in closed_in
    closing_ends t =
        let z : start - (2 + k) ≡ 2 ^ k - 1 = omega arith in
        ap is_some t ∙ rw (z, part_bytes ds (2 + k) (2 ^ k - 1) (omega arith), e, s, le-leb k 6 h)
        (go (tree_in ds most_depth k (tree_at k)))
      where
        passed : (b : Bool) (x : ℕ) → is_some (end_of (given b x)) ≡ b
        passed true x = refl
        passed false x = refl

        tested : Placed → Bool
        tested t = tree_test (2 ^ k) (open_in ds k) value_fits (limits those) t.tree

        go : (o : Option Placed) → is_some (end_of (and_then o (λ t. given (tested t) t.end))) ≡ closing those (open_in ds k) o
        go none = refl
        go (some t) = passed (tested t) t.end ∙ rw (length_bounds (rows_held rows k), length_tabulate k (λ i. HeldRows.given (held_at rows i))) refl

    pub closing_told : (marks : List Bool) → length marks ≡ 64 → ((c : ℕ) → c < 64 → marked marks c ≡ open_cell k cells c)
        → q ≡ end_of (closed_in ds k (marked marks) most_depth k (limits_held k way k) start) → is_some q ≡ closing_in those ds k
    closing_told marks w m t = closing_ends (t ∙ ap end_of (closed_same ds k (marked marks) (open_byte cells) most_depth k (limits_held k way k) start (marks_live k cells marks w m h)))

-- ---- 19 on bytes is 19 of the step that they are
pub closing_step : (marks : Bool) (rows : List Bound) (ds : List ℕ) (k : ℕ) (K : Counting) → counting_in marks ds k ≡ some (counting K)
    → closing_in rows ds k ≡ closed_test rows (open_at K.cells) value_fits K.tree
unfolding closing_in counting_in
closing_step marks rows ds k K e = start (leb 1 k && (leb k 6 && leb (tree_at k) (length ds))) refl e
  where
    made : Placed → Counting
    made t = record { rows = bytes_at literal ds 2 k; cells = bytes_at (cell_of marks) ds (2 + k) (2 ^ k - 1); tree = t.tree }

    end : (t : Placed) (b : Bool) → given b (counting (made t)) ≡ some (counting K)
        → closed_test rows (open_in ds k) value_fits t.tree ≡ closed_test rows (open_at K.cells) value_fits K.tree
    end t true q = let z : made t ≡ K = some-injective _ _ (ap as_counting (some-injective _ _ q)) in
        ap (λ (f : ℕ → Bool). closed_test rows f value_fits t.tree) (open_part marks ds (2 + k) (2 ^ k - 1))
        ∙ ap (λ M. closed_test rows (open_at M.cells) value_fits M.tree) z
    end t false q = absurd (none-ne-some _ q)

    tree : (o : Option Placed) → and_then o (λ t. given (eqb t.end (length ds)) (counting (made t))) ≡ some (counting K)
        → closing rows (open_in ds k) o ≡ closed_test rows (open_at K.cells) value_fits K.tree
    tree none q = absurd (none-ne-some _ q)
    tree (some t) q = end t (eqb t.end (length ds)) q

    start : (b : Bool) → (leb 1 k && (leb k 6 && leb (tree_at k) (length ds))) ≡ b
        → cond b (and_then (tree_in ds most_depth k (tree_at k)) (λ t. given (eqb t.end (length ds)) (counting (made t)))) none ≡ some (counting K)
        → cond (leb k 6) (closing rows (open_in ds k) (tree_in ds most_depth k (tree_at k))) false ≡ closed_test rows (open_at K.cells) value_fits K.tree
    start true h q = rw (and_l (leb k 6) _ (and_r (leb 1 k) _ h)) (tree (tree_in ds most_depth k (tree_at k)) q)
    start false h q = absurd (none-ne-some _ q)
