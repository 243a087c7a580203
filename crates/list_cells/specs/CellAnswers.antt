-- The answer for a cell by what the rows give it, and test 18 of the cell by that answer.
use Rattle.std.specs.Prelude as Rust
use Rattle.std.specs.Prelude.{Some, None, Result, Ok, Err, ℕ, ◌+◌, ◌≤◌, ◌<◌, ◌≡◌, Bool, not, ◌&&◌, ◌||◌, List, ltb, set}
use Rattle.std.proofs.Math.Path.{refl, fun_ext}
use Rattle.std.proofs.Common.{sym, ◌∙◌, ap₂, lt-ltb}
use Rattle.std.proofs.Math.Bool.{true, false, cond}
use Rattle.std.proofs.lemmas.Bool.{false≢true}
use Rattle.std.proofs.Math.Option.{Option, none, some}
use Rattle.std.proofs.Math.Dec.{eqb}
use Rattle.logic.specs.Tests.{◌⇒◌}
use Rattle.logic.specs.Bounded.{all_below}
use Rattle.logic.specs.Sets.{has, within, set_of}
use Rattle.logic.specs.SetLaws.{has_lt, set_ext, set_of↔}
use Rattle.parts.specs.Numbers.{byte_at}
use Rattle.labels.specs.Labels.{value_of}
use Rattle.labels.specs.declared.Label.{Label}
use Rattle.refutation.specs.Records.{unshown, cited, barred}
use Rattle.refutation.specs.RecordTests.{Answer, by_roles, knows, cell_fits}
use Rattle.roles.specs.Disjoint.{compatible_by}
use Rattle.list_form.specs.ListForm.{cell_of, is_mark}
use Rattle.cell_walk.specs.Walks.{roles_in}
use Rattle.cell_labels.specs.CellRows.{gathered_by}
use Rattle.list_cells.specs.CellSteps.{answer_with}
use Rattle.list_cells.specs.declared.Walk.{Walk}

-- what is gathered of a cell (`gatheredBy` of cell_labels) where its rows tell its roles by `above`
abbrev pub gathered : List ℕ → List ℕ → List Label → List ℕ → ℕ → ℕ
gathered above own shown against c = gathered_by (roles_in above c) own shown against c

-- the answer for a cell with the roles r, and what an answer of the code stands for
abbrev pub answer_by : List ℕ → ℕ → List ℕ → List Label → List ℕ → ℕ → Answer
answer_by a r own shown against c = answer_with (compatible_by a r) (gathered_by (has r) own shown against c)

abbrev pub answer_of : Rust.Option Label → Answer
answer_of None = by_roles
answer_of (Some x) = knows (value_of x)

-- the byte that each asks of its cell: 254 if its roles bar it; of another cell the byte is 255 or a cite
abbrev pub mark_of : Rust.Option Label → Option ℕ
mark_of None = some 254
mark_of (Some x) = none

-- where a walk ended, at a cell that is not fine or behind the last
abbrev pub ended : Result Walk Walk → Walk
ended (Ok w) = w
ended (Err w) = w

-- test 18 of cell c of the step ds, by the answer that the arrays give; the byte of cell 1 stands behind the k row literals
abbrev pub gathered_on : Bool → List ℕ → (ℕ → ℕ) → List ℕ → List ℕ → List Label → List ℕ → List ℕ → ℕ → ℕ → Bool
gathered_on marks a num above own shown against ds k c = ltb 0 c
    ⇒ cell_fits num (answer_with (compatible_by a (set_of 16 (roles_in above c))) (gathered above own shown against c))
    (cell_of marks (byte_at ds (1 + k + c)))

-- a mask has no roles but those below 16
mask_is : (r : ℕ) (f : ℕ → Bool) → r < 65536 → ((t : ℕ) → has r t ≡ f t) → r ≡ set_of 16 f
mask_is r f h e = set_ext r (set_of 16 f) (λ t u. (set_of↔ 16 f t).1 (has_lt 16 r t h u, sym (e t) ∙ u)) (λ t u. e t ∙ ((set_of↔ 16 f t).0 u).1)

module _ (marks : Bool) (a : List ℕ) (num : ℕ → ℕ) (above own : List ℕ) (shown : List Label) (against ds : List ℕ) (k : ℕ) where
  -- cell 0 is none
  pub no_cell : all_below 1 (gathered_on marks a num above own shown against ds k) ≡ true
  unfolding all_below
  no_cell = refl

  -- the roles r of cell c are those that its rows give
  pub cell_at_lem : (c b r : ℕ) (fine : Bool) → 1 ≤ c → b ≡ byte_at ds (1 + k + c) → r < 65536 → ((t : ℕ) → has r t ≡ roles_in above c t)
      → fine ≡ cell_fits num (answer_by a r own shown against c) (cell_of marks b)
      → fine ≡ gathered_on marks a num above own shown against ds k c
  cell_at_lem c b r fine h e few roles q = rw (lt-ltb 0 c h, ← e) (q ∙ ap₂
      (λ x (m : ℕ → Bool). cell_fits num (answer_with (compatible_by a x) (gathered_by m own shown against c)) (cell_of marks b))
      (mask_is r (roles_in above c) few roles) (fun_ext roles))

-- ---- laws for the test of a cell's byte b
module _ (marks : Bool) (num : ℕ → ℕ) (b : ℕ) (o : Bool) (m : o ≡ is_mark marks b) where
  -- a mark says whether the roles are barred
  pub by_mark : (free : Bool) (M : ℕ) → o ≡ true → cond (eqb b 255) free (not free) ≡ cell_fits num (answer_with free M) (cell_of marks b)
  unfolding cell_fits
  by_mark free M e = go (eqb b 255) (marks && eqb b 254) free (sym m ∙ e)
    where
      go : (x y f : Bool) → (x || y) ≡ true
          → cond x f (not f) ≡ cell_fits num (answer_with f M) (cond x unshown (cond y barred (cited b)))
      go true y true h = refl
      go true y false h = refl
      go false true true h = refl
      go false true false h = refl
      go false false f h = absurd (false≢true h)

  -- and a cite is asked for in what is known
  cites : o ≡ false → cell_of marks b ≡ cited b
  cites e = go (eqb b 255) (marks && eqb b 254) (sym m ∙ e)
    where
      go : (x y : Bool) → (x || y) ≡ false → cond x unshown (cond y barred (cited b)) ≡ cited b
      go true y h = absurd (false≢true (sym h))
      go false true h = absurd (false≢true (sym h))
      go false false h = refl

  module _ (e : o ≡ false) (x : Rust.Option Label) (A : Answer) (q : answer_of x ≡ A) where
    pub by_none : x ≡ None → false ≡ cell_fits num A (cell_of marks b)
    unfolding cell_fits
    by_none h = rw (cites e, ← q, h) refl

    pub by_cite : (y : Label) (N : ℕ) → x ≡ Some y → N ≡ num b → within N (value_of y) ≡ cell_fits num A (cell_of marks b)
    unfolding cell_fits
    by_cite y N h p = rw (cites e, ← q, h, p) refl
