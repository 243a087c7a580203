-- 16 and 17 of a counting step as the code tests them, on the step's bytes.
use Rattle.std.specs.Prelude as Rust
use Rattle.std.specs.Prelude.{Some, None, Ok, Err, is_some, ℕ, zero, suc, ◌+◌, ◌-◌, ◌/◌, ◌%◌, ◌^◌, ◌≤◌, ◌<◌, ◌≡◌, Bool, cond, ◌||◌, List, [], length, get_or}
use Rattle.std.proofs.Math.Path.{refl, sym, ap, ap₂}
use Rattle.std.proofs.Common.{◌∙◌, arith, lt-ltb, le-ltb}
use Rattle.std.proofs.Math.Bool.{true, false, ◌&&◌}
use Rattle.std.proofs.Math.Option.{Option, none, some, none-ne-some}
use Rattle.std.proofs.Math.Decide.{dec_le}
use Rattle.std.proofs.Math.Dec.{eqb, ltb}
use Rattle.logic.specs.Tests.{◌⇒◌}
use Rattle.logic.specs.Bounded.{all_below, all_cong}
use Rattle.logic.specs.Lists.{each_tabulate, length_tabulate, at_tabulate}
use Rattle.logic.specs.Sets.{has}
use Rattle.logic.specs.Refusals.{Refusal, unless, refuse}
use Rattle.parts.specs.Numbers.{byte_at, up_to, up_to_all}
use Rattle.counting.specs.Trees.{leaf}
use Rattle.description.specs.Literals.{pos, literal, code, code_literal, entry_of, members}
use Rattle.description.specs.Descriptions.{Description}
use Rattle.refutation.specs.Cells.{Row, row_of, is_row}
use Rattle.refutation.specs.Records.{unshown, cited, barred, Counting, counting, cell_at}
use Rattle.refutation.specs.RecordTests.{cite_test, step_test, if_cited}
use Rattle.list_form.specs.ListForm.{bytes_at, cell_of, is_mark}
use Rattle.rows.specs.declared.Row as Held
use Rattle.rows.specs.HeldRows.{without_roles, held_row}
use Rattle.cites.specs.Cites.{named_refusal, cite_of, is_earlier, is_bad}
use Rattle.answers.specs.declared.Reason.TheVariants as Reason
use Rattle.answers.specs.Reasons.{refused}
use Rattle.answers.specs.Answers.{refusal_of}

-- the counting step of the bytes ds with k rows; 16 and 17 do not ask for its tree
abbrev pub count_of : Bool → List ℕ → ℕ → Counting
count_of marks ds k = record { rows = bytes_at literal ds 2 k; cells = bytes_at (cell_of marks) ds (2 + k) (2 ^ k - 1); tree = leaf [] }

-- its 16 and 17, which ask for no other label
abbrev pub rows_refusal : Description → ℕ → ℕ → Counting → Option ℕ
rows_refusal D i N K = named_refusal D (λ j. 0) i N (counting K)

-- row literal j is of the table; it is in the label N and gives a row; it is below the next
abbrev pub in_table : List ℕ → List ℕ → ℕ → Bool
in_table cs ds j = ltb (entry_of (literal (byte_at ds (2 + j)))) (length cs / 6)

abbrev pub named_at : List ℕ → ℕ → List ℕ → ℕ → Bool
named_at cs N ds j = members N (literal (byte_at ds (2 + j))) && is_row (row_of (without_roles cs []) (literal (byte_at ds (2 + j))))

abbrev pub rises_at : List ℕ → ℕ → ℕ → Bool
rises_at ds k j = ltb (suc j) k ⇒ ltb (byte_at ds (2 + j)) (byte_at ds (3 + j))

-- cell c is none of the step, has a mark, or cites a record before i
abbrev pub cites_at : Bool → List ℕ → ℕ → ℕ → ℕ → Bool
cites_at marks ds k i c = ltb 0 c ⇒ if_cited (λ j. ltb j i) (cell_of marks (byte_at ds (1 + k + c)))

-- ---- the tests of the bytes are those of the step
module _ (marks : Bool) (cs ds : List ℕ) (k i N : ℕ) where
  abbrev D : Description
  D = without_roles cs []

  abbrev K : Counting
  K = count_of marks ds k

  cell_at_lem : (c : ℕ) → c < 2 ^ k → cites_at marks ds k i c ≡ (ltb 0 c ⇒ if_cited (λ j. ltb j i) (cell_at K.cells c))
  cell_at_lem zero h = refl
  cell_at_lem (suc c) h = let z : 1 + k + suc c ≡ 2 + k + c = omega arith in let w : suc c - 1 ≡ c = omega arith in
      rw (z, w, at_tabulate (2 ^ k - 1) (λ m. cell_of marks (byte_at ds (2 + k + m))) unshown c (omega arith)) refl

  pub cites_are : (all_below k (in_table cs ds) && all_below (2 ^ k) (cites_at marks ds k i)) ≡ cite_test D (λ j. 0) i N (counting K)
  unfolding cite_test
  cites_are = ap₂ ◌&&◌ (each_tabulate k (λ j. literal (byte_at ds (2 + j))) (λ l. ltb (entry_of l) (length cs / 6)))
      (all_cong (2 ^ k) _ _ cell_at_lem
      ∙ ap (λ m. all_below (2 ^ m) (λ c. ltb 0 c ⇒ if_cited (λ j. ltb j i) (cell_at K.cells c)))
      (sym (length_tabulate k (λ j. literal (byte_at ds (2 + j))))))

  rise_at : (j : ℕ) → j < k → rises_at ds k j ≡ (ltb (suc j) k ⇒ ltb (code (get_or K.rows j (pos 0))) (code (get_or K.rows (suc j) (pos 0))))
  rise_at j h = elim (dec_le k (suc j)) [
    | yes q ↦ rw (le-ltb (suc j) k q) refl
    | no q ↦ let l : suc j < k = omega arith in let z : 2 + suc j ≡ 3 + j = omega arith in
        rw (lt-ltb (suc j) k l, at_tabulate k (λ m. literal (byte_at ds (2 + m))) (pos 0) j h, at_tabulate k (λ m. literal (byte_at ds (2 + m))) (pos 0) (suc j) l, code_literal (byte_at ds (2 + j)), code_literal (byte_at ds (2 + suc j)), z) refl
  ]

  pub rows_are : (all_below k (named_at cs N ds) && all_below k (rises_at ds k)) ≡ step_test D (λ j. 0) i N (counting K)
  unfolding step_test
  rows_are = ap₂ ◌&&◌ (each_tabulate k (λ j. literal (byte_at ds (2 + j))) (λ l. members N l && is_row (row_of D l)))
      (all_cong k _ _ rise_at ∙ ap (λ m. all_below m (λ j. ltb (suc j) m ⇒ ltb (code (get_or K.rows j (pos 0))) (code (get_or K.rows (suc j) (pos 0))))) (sym (length_tabulate k (λ j. literal (byte_at ds (2 + j))))))

-- ---- laws for the code
pub half_is : (b : ℕ) → b / 2 ≡ entry_of (literal b)
unfolding literal
half_is b = elim (dec_le 1 (b % 2)) [
  | yes q ↦ (let z : b % 2 ≡ 1 = omega arith in rw z refl)
  | no q ↦ (let z : b % 2 ≡ 0 = omega arith in rw z refl)
]

pub inside_table : (cs ds : List ℕ) (j b : ℕ) → b ≡ byte_at ds (2 + j) → ltb (b / 2) (length cs / 6) ≡ in_table cs ds j
inside_table cs ds j b p = rw (half_is b, p) refl

module _ (marks : Bool) (ds : List ℕ) (k i c : ℕ) where
  pub cell_none : c ≡ 0 → true ≡ cites_at marks ds k i c
  cell_none e = rw e refl

  module _ (b : ℕ) (p : b ≡ byte_at ds (1 + k + c)) (h : c ≡ 0 → ⊥) where
    some_cell : ltb 0 c ≡ true
    some_cell = lt-ltb 0 c (omega arith)

    -- a byte that is a mark passes, any other is tested
    by_mark : cites_at marks ds k i c ≡ (is_mark marks b || ltb b i)
    unfolding if_cited
    by_mark = rw (some_cell, ← p) (go (eqb b 255) (marks && eqb b 254))
      where
        go : (o m : Bool) → if_cited (λ j. ltb j i) (cond o unshown (cond m barred (cited b))) ≡ ((o || m) || ltb b i)
        go true m = refl
        go false true = refl
        go false false = refl

    pub cell_mark : (o : Bool) → o ≡ is_mark marks b → o ≡ true → true ≡ cites_at marks ds k i c
    cell_mark o q e = sym (by_mark ∙ rw (sym q ∙ e) refl)

    pub cell_test_lem : (o : Bool) → o ≡ is_mark marks b → o ≡ false → ltb b i ≡ cites_at marks ds k i c
    cell_test_lem o q e = sym (by_mark ∙ rw (sym q ∙ e) refl)

    module _ (o : Bool) (m : o ≡ is_mark marks b) (e : o ≡ false) (x : Rust.Option ℕ) (q : x ≡ cite_of i b) where
      pub cell_earlier : (d : ℕ) → x ≡ Some d → true ≡ cites_at marks ds k i c
      cell_earlier d t = sym (is_earlier i b d x q t).0 ∙ cell_test_lem o m e

      pub cell_bad : x ≡ None → false ≡ cites_at marks ds k i c
      cell_bad t = sym (is_bad i b x q t) ∙ cell_test_lem o m e

module _ (cs : List ℕ) (N : ℕ) (ds : List ℕ) (j b : ℕ) (p : b ≡ byte_at ds (2 + j)) where
  pub named_not : has N b ≡ false → false ≡ named_at cs N ds j
  unfolding members
  named_not e = rw (← p, code_literal b, e) refl

  is_row_lem : (o : Option Row) → is_some (held_row o) ≡ is_row o
  is_row_lem none = refl
  is_row_lem (some R) = refl

  pub named_row : has N b ≡ true → (x : Rust.Option Held.Row) → x ≡ held_row (row_of (without_roles cs []) (literal b)) → is_some x ≡ named_at cs N ds j
  unfolding members
  named_row e x q = rw (← p, code_literal b, e) (ap is_some q ∙ is_row_lem (row_of (without_roles cs []) (literal b)))

module _ (ds : List ℕ) (k j : ℕ) where
  pub rises_next : (a b : ℕ) → a ≡ byte_at ds (2 + j) → b ≡ byte_at ds (3 + j) → j + 1 < k → ltb a b ≡ rises_at ds k j
  rises_next a b p q h = let z : suc j < k = omega arith in rw (lt-ltb (suc j) k z, p, q) refl

  pub rises_last : k ≤ j + 1 → true ≡ rises_at ds k j
  rises_last h = let z : k ≤ suc j = omega arith in rw (le-ltb (suc j) k z) refl

-- the four tests in their order
module _ (marks : Bool) (cs ds : List ℕ) (k i N : ℕ) where
  -- 16, and 17
  abbrev pub cite : Bool
  cite = all_below k (in_table cs ds) && all_below (2 ^ k) (cites_at marks ds k i)

  abbrev step : Bool
  step = all_below k (named_at cs N ds) && all_below k (rises_at ds k)

  abbrev told : Option Refusal
  told = refuse i (rows_refusal (without_roles cs []) i N (count_of marks ds k)) none

  pub rows_16 : cite ≡ false → refusal_of {A = Unit {0}} (Err (refused Reason.Cite i)) ≡ told
  unfolding named_refusal
  rows_16 e = rw (sym (cites_are marks cs ds k i N) ∙ e) refl

  pub rows_17 : cite ≡ true → step ≡ false → refusal_of {A = Unit {0}} (Err (refused Reason.Step i)) ≡ told
  unfolding named_refusal
  rows_17 p e = rw (sym (cites_are marks cs ds k i N) ∙ p, sym (rows_are marks cs ds k i N) ∙ e) refl

  pub rows_fine : cite ≡ true → step ≡ true → refusal_of {A = Unit {0}} (Ok tt) ≡ told
  unfolding named_refusal
  rows_fine p e = rw (sym (cites_are marks cs ds k i N) ∙ p, sym (rows_are marks cs ds k i N) ∙ e) refl

-- the number of cells of at most six rows
pub count_few : (k n : ℕ) → k ≤ 6 → n ≡ 2 ^ up_to 6 k → n ≡ 2 ^ k
count_few k n h e = e ∙ ap (λ m. 2 ^ m) (up_to_all 6 k h)

-- what a test of 16 says of what it tests
pub test_false : (i : ℕ) (b : Bool) (z : Refusal) → refuse i (unless b 16 none) none ≡ some z → b ≡ false
test_false i true z e = absurd (none-ne-some z e)
test_false i false z e = refl

pub test_true : (i : ℕ) (b : Bool) → refuse i (unless b 16 none) none ≡ none → b ≡ true
test_true i true e = refl
test_true i false e = absurd (none-ne-some _ (sym e))

-- the same refusal of a wider test that fails, too
pub test_same : (i : ℕ) (b d : Bool) (o : Option Refusal) → o ≡ refuse i (unless b 16 none) none → b ≡ false → d ≡ false → o ≡ refuse i (unless d 16 none) none
test_same i b d o e p q = e ∙ ap (λ a. refuse i (unless a 16 none) none) (p ∙ sym q)
