-- The rules of refutations as tests, in the table's order, and that they say what the rules say.
use Rattle.std.specs.Prelude.{ℕ, zero, suc, ◌*◌, ◌-◌, ◌^◌, Bool, cond, ◌&&◌, List, eqb, leb, ltb, length}
use Rattle.std.proofs.Math.Bool.{true, false}
use Rattle.std.proofs.Math.Option.{Option, none, some}
use Rattle.logic.specs.Tests.{◌⇒◌}
use Rattle.logic.specs.Bounded.{all_below}
use Rattle.logic.specs.Lists.{each}
use Rattle.logic.specs.Sets.{narrow, within}
use Rattle.logic.specs.Refusals.{Refusal, unless, refuse, refuse_from}
use Rattle.counting.specs.Trees.{formed, depth}
use Rattle.counting.specs.Rows.{closed_test}
use Rattle.description.specs.Literals.{Literal, pos, neg, opposite, code, entry_of, members, adding, literal_set, label_of}
use Rattle.description.specs.Descriptions.{Description, compatible, is_both}
use Rattle.refutation.specs.Cells.{row_of, is_row, rows_of, bounds, cell_role, known}
use Rattle.refutation.specs.Records.{Cell, unshown, cited, barred, Counting, Step, contradiction, conjunction, disjunction, by_rule, case_split, counting, as_counting, Refutation, record_at, number_at, cell_at, open_at, literal_at, in_label, RefutationLimits}

-- no limits: lifted refutations
abbrev pub any_refutation : RefutationLimits
any_refutation = record { rows = λ n. true; depth = λ n. true; value = λ n. true }

-- the limits of stored ones: 6 rows, depth 8, split values up to 1,000
abbrev pub stored_refutation : RefutationLimits
stored_refutation = record { rows = λ n. leb n 6; depth = λ n. leb n 8; value = λ n. leb n 1000 }

-- a test of the counting steps, which any other step passes
unfoldable pub when_counting : (Counting → Bool) → Option Counting → Bool
when_counting p none = true
when_counting p (some K) = p K

-- a test of the record that a cell cites, which any other cell passes
unfoldable pub if_cited : (ℕ → Bool) → Cell → Bool
if_cited p unshown = true
if_cited p (cited j) = p j
if_cited p barred = true

-- 10
abbrev pub form_test : RefutationLimits → Counting → Bool
form_test lim K = (leb 1 (length K.rows) && (eqb (suc (length K.cells)) (2 ^ length K.rows) && formed (length K.rows) K.tree))
    && (lim.rows (length K.rows) && lim.depth (depth K.tree))

-- the known label of cell c as a number: what one cell shows, under the label number N and with those row literals
abbrev pub known_label : Description → ℕ → List Literal → ℕ → ℕ
known_label D N lits c = label_of D.entries (known D (members N) (rows_of D lits) c)

-- the answer for one cell: barred by its roles, or a known label
pub data Answer : Type 0 where
  by_roles : Answer
  knows : ℕ → Answer

abbrev pub answer_for : Description → ℕ → List Literal → ℕ → Answer
answer_for D N lits c = cond (compatible D (cell_role D (rows_of D lits) c)) (knows (known_label D N lits c)) by_roles

-- 18, of a cell with that answer, where record j has the label number num j
unfoldable pub cell_fits : (ℕ → ℕ) → Answer → Cell → Bool
cell_fits num (knows M) unshown = true
cell_fits num (knows M) (cited j) = within (num j) M
cell_fits num (knows M) barred = false
cell_fits num by_roles unshown = false
cell_fits num by_roles (cited j) = false
cell_fits num by_roles barred = true

module _ (D : Description) (num : ℕ → ℕ) (i N : ℕ) where
  -- 16
  unfoldable pub cite_test : Step → Bool
  cite_test (contradiction l) = ltb (entry_of l) D.entries
  cite_test (conjunction e c) = ltb e D.entries && ltb c i
  cite_test (disjunction e c d) = ltb e D.entries && (ltb c i && ltb d i)
  cite_test (by_rule q c) = ltb q D.rules && ltb c i
  cite_test (case_split e c d) = ltb e D.entries && (ltb c i && ltb d i)
  cite_test (counting K) = each K.rows (λ l. ltb (entry_of l) D.entries)
      && all_below (2 ^ length K.rows) (λ c. ltb 0 c ⇒ if_cited (λ j. ltb j i) (cell_at K.cells c))

  -- 17
  unfoldable pub step_test : Step → Bool
  step_test (contradiction l) = in_label (members N) l && in_label (members N) (opposite l)
  step_test (conjunction e c) = members N (pos e) && is_both (λ a b. within (num c) (adding (adding N a) b)) (D.entry e)
  step_test (disjunction e c d) = members N (neg e)
      && is_both (λ a b. within (num c) (adding N (opposite a)) && within (num d) (adding N (opposite b))) (D.entry e)
  step_test (by_rule q c) = within (num c) (adding N (D.rule q))
  step_test (case_split e c d) = within (num c) (adding N (pos e)) && within (num d) (adding N (neg e))
  step_test (counting K) = each K.rows (λ l. members N l && is_row (row_of D l))
      && all_below (length K.rows) (λ j. ltb (suc j) (length K.rows) ⇒ ltb (code (literal_at K.rows j)) (code (literal_at K.rows (suc j))))

  -- 18
  abbrev pub cell_test : Step → Bool
  cell_test s = when_counting (λ K. all_below (2 ^ length K.rows) (λ c.
      ltb 0 c ⇒ cell_fits num (answer_for D N K.rows c) (cell_at K.cells c))) (as_counting s)

  -- 19
  abbrev pub closing_test : (ℕ → Bool) → Step → Bool
  closing_test fits s = when_counting (λ K. closed_test (bounds (rows_of D K.rows)) (open_at K.cells) fits K.tree) (as_counting s)

  -- the smallest of 16 to 19 that refuses the record i with label number N
  unfoldable pub record_refusal : (ℕ → Bool) → Step → Option ℕ
  record_refusal fits s =
      unless (narrow N (2 * D.entries) && cite_test s) 16
      (unless (step_test s) 17
      (unless (cell_test s) 18
      (unless (closing_test fits s) 19 none)))

-- the set of literal 0 and what is wanted
unfoldable pub end_label : List Literal → ℕ
end_label W = adding (literal_set W) (pos 0)

-- 10, of one record
abbrev pub record_form : RefutationLimits → Step → Option ℕ
record_form lim s = unless (when_counting (form_test lim) (as_counting s)) 10 none

-- first every record's form; then each record in turn by 16 to 19; then the last label by 20
unfoldable pub refutation_refusal : RefutationLimits → Description → List Literal → Refutation → Option Refusal
refutation_refusal lim D W C =
    refuse_from (λ i. record_form lim (record_at C i).step) (length C) 0
    (refuse_from (λ i. record_refusal D (number_at C) i (number_at C i) lim.value (record_at C i).step) (length C) 0
    (refuse (length C - 1) (unless (within (number_at C (length C - 1)) (end_label W)) 20 none) none))
