-- The tests of refutations say what the rules say.
use Rattle.std.specs.Prelude.{ℕ, zero, suc, ◌≤◌, ◌<◌, ◌≡◌, ◌↔◌, ◌⊎◌, Bool, cond, List, length}
use Rattle.std.proofs.Math.Path.{refl}
use Rattle.std.proofs.Common.{subst, inl, inr}
use Rattle.std.proofs.Math.Logic.Iff
use Rattle.std.proofs.Math.Bool.{true, false, false≢true}
use Rattle.std.proofs.Math.Option.{Option, none, some}
use Rattle.logic.specs.Tests.{So, and↔, reading}
use Rattle.logic.specs.Lists.{◌∈◌, listed}
use Rattle.logic.specs.Sets.{within}
use Rattle.logic.specs.Refusals.{unless↔, refuse↔, records↔}
use Rattle.counting.specs.Trees.{ValuesFit}
use Rattle.counting.proofs.TreeLaws.{tree↔}
use Rattle.counting.specs.Rows.{Closed, closed_test}
use Rattle.description.specs.Literals.{Literal, pos, entry_of, members, literal_set, in_table↔, within_members↔, members_adding, adding↔, members_label_of}
use Rattle.description.proofs.Literals.{literal_set↔}
use Rattle.description.specs.Descriptions.{Description, Compatible, compatible, compatible↔, is_both↔}
use Rattle.description.specs.Acceptance.{Accepted}
use Rattle.refutation.specs.Cells.{row_of, is_row, rows_of, bounds, cell_role, Known, known↔, rows_inside, known_in_lem}
use Rattle.refutation.specs.Records.{Cell, unshown, cited, barred, Counting, Step, contradiction, conjunction, disjunction, by_rule, case_split, counting, as_counting, WhenCounting, Refutation, number_at, open_at, FormOk, FormFits, CiteOk, StepOk, CellFits, CellOk, TreeOk, RecordOk, EndOk, Closes, RefutationLimits, StepValuesFit, RefutationFits}
use Rattle.refutation.specs.RecordTests.{when_counting, if_cited, form_test, known_label, answer_for, cell_fits, cite_test, step_test, cell_test, closing_test, record_refusal, end_label, refutation_refusal, by_roles, knows}

pub if_cited↔ : (p : ℕ → Bool) (x : Cell) → So (if_cited p x) ↔ ((j : ℕ) → x ≡ cited j → So (p j))
unfolding if_cited
if_cited↔ p x = (
  λ h j e. subst (λ y. So (if_cited p y)) e h,
  elim x as (λ x. ((j : ℕ) → x ≡ cited j → So (p j)) → So (if_cited p x)) [ unshown ↦ λ h. refl | cited j ↦ λ h. h j refl | barred ↦ λ h. refl ],
)

-- a test of the counting steps tests what it tests of one
pub when_counting↔ : (p : Counting → Bool) (P : Counting → Type 0) → ((K : Counting) → So (p K) ↔ P K) → (o : Option Counting)
    → So (when_counting p o) ↔ WhenCounting P o
unfolding when_counting
when_counting↔ p P e none = (λ h. tt, λ h. refl)
when_counting↔ p P e (some K) = e K

when_both : (P Q : Counting → Type 0) (o : Option Counting) → WhenCounting (λ K. P K × Q K) o ↔ (WhenCounting P o × WhenCounting Q o)
when_both P Q none = (λ h. (tt, tt), λ h. tt)
when_both P Q (some K) = (λ h. h, λ h. h)

module _ (D : Description) (num : ℕ → ℕ) (i N : ℕ) where
  pub cite↔ : (s : Step) → So (cite_test D num i N s) ↔ CiteOk D num i (members N) s
  unfolding cite_test
  cite↔ (contradiction l) = simp listed Iff.rfl
  cite↔ (conjunction e c) = simp listed Iff.rfl
  cite↔ (disjunction e c d) = simp listed Iff.rfl
  cite↔ (by_rule q c) = simp listed Iff.rfl
  cite↔ (case_split e c d) = simp listed Iff.rfl
  cite↔ (counting K) = simp (listed, if_cited↔) Iff.rfl

  pub step↔ : (s : Step) → So (step_test D num i N s) ↔ StepOk D num i (members N) s
  unfolding step_test
  step↔ (contradiction l) = and↔ _ _
  step↔ (conjunction e c) = simp (and↔, is_both↔, within_members↔, members_adding) Iff.rfl
  step↔ (disjunction e c d) = simp (and↔, is_both↔, within_members↔, members_adding) Iff.rfl
  step↔ (by_rule q c) = simp (within_members↔, members_adding) Iff.rfl
  step↔ (case_split e c d) = simp (and↔, within_members↔, members_adding) Iff.rfl
  step↔ (counting K) = simp listed Iff.rfl

  -- a known label has no literal past the table, so the number of its literals in the table is the whole of it
  shown↔ : Accepted D → (lits : List Literal) → ((l : Literal) → l ∈ lits → entry_of l < D.entries) → ((l : Literal) → l ∈ lits → So (is_row (row_of D l)))
      → (c j : ℕ) → So (within (num j) (known_label D N lits c)) ↔ ((l : Literal) → So (members (num j) l) → Known D (members N) (rows_of D lits) c l)
  shown↔ A lits inside rows c j = simp (within_members↔, members_label_of, known↔) (
    λ h l u. (h l u).1,
    λ h l u. (known_in_lem D A (members N) (rows_of D lits) c (rows_inside D A lits inside rows) l (h l u), h l u),
  )

  fits↔ : Accepted D → (lits : List Literal) → ((l : Literal) → l ∈ lits → entry_of l < D.entries) → ((l : Literal) → l ∈ lits → So (is_row (row_of D l)))
      → (c : ℕ) (x : Cell) → So (cell_fits num (answer_for D N lits c) x) ↔ CellFits D num i (members N) (rows_of D lits) c x
  unfolding cell_fits
  fits↔ A lits inside rows c x = go (compatible D (cell_role D (rows_of D lits) c)) (compatible↔ D (cell_role D (rows_of D lits) c)) x
    where
      go : (b : Bool) → So b ↔ Compatible D (cell_role D (rows_of D lits) c) → (x : Cell)
          → So (cell_fits num (cond b (knows (known_label D N lits c)) by_roles) x) ↔ CellFits D num i (members N) (rows_of D lits) c x
      go true e unshown = (λ h. e.0 refl, λ h. refl)
      go true e (cited j) = let w = shown↔ A lits inside rows c j in (λ h. (e.0 refl, w.0 h), λ h. w.1 h.1)
      go true e barred = (λ h. absurd (false≢true h), λ h. absurd (h (e.0 refl)))
      go false e unshown = (λ h. absurd (false≢true h), λ h. e.1 h)
      go false e (cited j) = (λ h. absurd (false≢true h), λ h. absurd (false≢true (e.1 h.0)))
      go false e barred = (λ h a. false≢true (e.1 a), λ h. refl)

  cell↔ : Accepted D → (s : Step) → CiteOk D num i (members N) s → StepOk D num i (members N) s → So (cell_test D num i N s) ↔ CellOk D num i (members N) s
  unfolding when_counting
  cell↔ A (counting K) n a = simp (listed, fits↔ A K.rows n.0 (λ l m. (a.0 l m).1)) Iff.rfl
  cell↔ A (contradiction l) n a = (λ h. tt, λ h. refl)
  cell↔ A (conjunction e c) n a = (λ h. tt, λ h. refl)
  cell↔ A (disjunction e c d) n a = (λ h. tt, λ h. refl)
  cell↔ A (by_rule q c) n a = (λ h. tt, λ h. refl)
  cell↔ A (case_split e c d) n a = (λ h. tt, λ h. refl)

  pub closing↔ : (fits : ℕ → Bool) (s : Step) → So (closing_test D num i N fits s) ↔ (TreeOk D num i (members N) s × StepValuesFit fits s)
  closing↔ fits s =
      let t = when_counting↔ (λ K. closed_test (bounds (rows_of D K.rows)) (open_at K.cells) fits K.tree)
      (λ K. Closed (bounds (rows_of D K.rows)) (open_at K.cells) K.tree × ValuesFit fits K.tree)
      (λ K. tree↔ _ (open_at K.cells) fits _ K.tree) (as_counting s) in
      let b = when_both (λ K. Closed (bounds (rows_of D K.rows)) (open_at K.cells) K.tree) (λ K. ValuesFit fits K.tree) (as_counting s) in
      (λ h. b.0 (t.0 h), λ h. t.1 (b.1 h))

  -- none of 16 to 19 refuses a record exactly if it keeps the rules and its split values are within the limit
  pub record↔ : Accepted D → (fits : ℕ → Bool) (s : Step) → (record_refusal D num i N fits s ≡ none) ↔ (RecordOk D num i (members N) s × StepValuesFit fits s)
  unfolding record_refusal
  record↔ A fits s = simp (unless↔, and↔, in_table↔, cite↔, step↔, closing↔) (
    λ t. (
      record {
        inside_table = t.0.0;
        cite_ok = t.0.1;
        step_holds = t.1.0;
        cell_ok = (cell↔ A s t.0.1 t.1.0).0 t.1.1.0;
        tree_ok = t.1.1.1.0.0;
      },
      t.1.1.1.0.1,
    ),
    λ o. ((o.0.inside_table, o.0.cite_ok), (o.0.step_holds, ((cell↔ A s o.0.cite_ok o.0.step_holds).1 o.0.cell_ok, ((o.0.tree_ok, o.1), refl)))),
  )

-- 20
members_end : (W : List Literal) (l : Literal) → So (members (end_label W) l) ↔ ((pos 0 ≡ l) ⊎ (l ∈ W))
unfolding end_label
members_end W l = (
  λ h. elim ((adding↔ (literal_set W) (pos 0) l).0 h) [ inl u ↦ inr ((literal_set↔ W l).0 u) | inr e ↦ inl e ],
  λ h. (adding↔ (literal_set W) (pos 0) l).1 (elim h [ inl e ↦ inr e | inr m ↦ inl ((literal_set↔ W l).1 m) ]),
)

pub end↔ : (W : List Literal) (N : ℕ) → So (within N (end_label W)) ↔ EndOk W N
end↔ W N = simp (within_members↔, members_end) Iff.rfl

pub form↔ : (lim : RefutationLimits) (o : Option Counting) → So (when_counting (form_test lim) o) ↔ (WhenCounting FormOk o × WhenCounting (FormFits lim) o)
form↔ lim o =
    let t = when_counting↔ (form_test lim) (λ K. FormOk K × FormFits lim K) (λ K. simp reading Iff.rfl) o in
    let b = when_both FormOk (FormFits lim) o in
    (λ h. b.0 (t.0 h), λ h. t.1 (b.1 h))

-- a refutation of one record or more is refused by none of 10 and 16 to 20 exactly if it closes and is within the limits
pub refutation↔ : (lim : RefutationLimits) (D : Description) → Accepted D → (W : List Literal) (C : Refutation)
    → ((1 ≤ length C) × (refutation_refusal lim D W C ≡ none)) ↔ (Closes D W C × RefutationFits lim C)
unfolding refutation_refusal
refutation↔ lim D A W C = simp (records↔, refuse↔, unless↔, form↔, record↔ D (number_at C), A, end↔) (
  λ t. (
    record {
      some_record = t.0;
      valid = record { forms = λ i l. (t.1.0 i l).0.0; records = λ i l. (t.1.1.0 i l).0 };
      end = t.1.1.1.0.0;
    },
    record { forms_fit = λ i l. (t.1.0 i l).0.1; values_fit = λ i l. (t.1.1.0 i l).1 },
  ),
  λ o. (
    o.0.some_record,
    (
      λ i l. ((o.0.valid.forms i l, o.1.forms_fit i l), refl),
      (λ i l. (o.0.valid.records i l, o.1.values_fit i l), ((o.0.end, refl), refl)),
    ),
  ),
)
