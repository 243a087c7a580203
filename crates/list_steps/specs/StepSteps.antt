-- 10, 16 and 17 of a record's step as the code tests them.
use Rattle.std.specs.Prelude.{ℕ, suc, ◌+◌, ◌-◌, ◌*◌, ◌/◌, ◌^◌, ◌≤◌, ◌<◌, ◌≡◌, Bool, ◌||◌, eqb, length}
use Rattle.std.proofs.Math.Path.{refl, sym, ap, ap₂, fun_ext}
use Rattle.std.proofs.Common.{◌∙◌, arith, lt-ltb, le-ltb}
use Rattle.std.proofs.Math.Bool.{true, false, ◌&&◌}
use Rattle.std.proofs.lemmas.Bool.{false≢true}
use mathlib.Core.List.{List, []}
use Rattle.std.proofs.Math.Option.{Option, none, some, none-ne-some}
use Rattle.std.proofs.Math.Decide.{dec_le, dec_lt}
use Rattle.std.proofs.Math.Dec.{ltb}
use Rattle.logic.specs.Tests.{◌⇒◌, so_false}
use Rattle.logic.specs.Bounded.{all_below}
use Rattle.logic.specs.Lists.{each}
use Rattle.logic.specs.Sets.{has, within, narrow}
use Rattle.logic.specs.SetLaws.{has_lt, narrow_whole}
use Rattle.logic.specs.Refusals.{Refusal, unless, refuse}
use Rattle.description.specs.Literals.{Literal, pos, neg, literal, code, code_literal, literal_code, members, adding, opposite}
use Rattle.description.specs.Descriptions.{Entry, top, name, both, every, at_least, Description, entry_of_fields, is_both}
use Rattle.parts.specs.Numbers.{byte_at, up_to, up_to_all, up_to_most}
use Rattle.tables.specs.Tables.{fields_at, entry_count}
use Rattle.tables.specs.Concepts.{concept_of, concept_at}
use Rattle.tables.specs.declared.Concept.{Concept}
use Rattle.tables.specs.declared.Concept.TheVariants.{Top, Name, Both, Every, AtLeast}
use Rattle.refutation.specs.Records.{Step, counting, literal_at, contradiction, conjunction, disjunction, by_rule, case_split, in_label}
use Rattle.refutation.specs.Cells.{is_row}
use Rattle.refutation.specs.RecordTests.{cite_test, step_test}
use Rattle.labels.specs.Labels.{most_entries, most_literals}
use Rattle.nodes.specs.NodeSteps.{opposed}
use Rattle.cites.specs.Cites.{of_entry, named_refusal}
use Rattle.rows.specs.HeldRows.{without_roles}
use Rattle.rows.proofs.HeldRows.{row_same}
use Rattle.list_rows.specs.RowSteps.{count_of, rows_refusal, half_is}
use Rattle.list_form.specs.ListForm.{step_in}
use Rattle.list_form.specs.FormSteps.{formed}
use Rattle.list_steps.specs.StepForm.{step_1_is, step_2_is, step_3_is, step_4_is, step_5_is, step_6_is}

-- 16 and 17 of the step that bytes are, where they are one
abbrev pub step_named : Description → (ℕ → ℕ) → ℕ → ℕ → Option Step → Option ℕ
step_named D num i N none = some 10
step_named D num i N (some x) = named_refusal D num i N x

-- 10; 16 of the own label; then the step's
abbrev pub step_refusal : Description → (ℕ → ℕ) → ℕ → ℕ → Option Step → Option ℕ
step_refusal D num i N none = some 10
step_refusal D num i N (some x) = unless (narrow N (2 * D.entries)) 16 (named_refusal D num i N x)

-- ---- laws for the code
-- entries and their complements in a label
module _ (N e : ℕ) (few : N < 2 ^ most_literals) where
  pub past_case : (denied : Bool) → most_entries ≤ e → false ≡ members N (of_entry e denied)
  unfolding members
  past_case true h = sym (so_false _ (λ u. let w = has_lt most_literals N (2 * e + 1) few u in omega arith))
  past_case false h = sym (so_false _ (λ u. let w = has_lt most_literals N (2 * e) few u in omega arith))

pub case_odd : (N e : ℕ) (denied : Bool) → denied ≡ true → has N (2 * e + 1) ≡ members N (of_entry e denied)
unfolding members
case_odd N e denied p = rw p refl

pub case_even : (N e : ℕ) (denied : Bool) → denied ≡ false → has N (2 * e) ≡ members N (of_entry e denied)
unfolding members
case_even N e denied p = rw p refl

pub in_label_lem : (N l : ℕ) (b : Bool) → b ≡ has N l → (b || eqb l 0) ≡ in_label (members N) (literal l)
unfolding members
in_label_lem N l b p = rw (p, code_literal l) refl

-- a test that only a "both" passes, on the concept that the code has read
abbrev pub as_both : (ℕ → ℕ → Bool) → Concept → Bool
as_both p Top = false
as_both p Name = false
as_both p (Both a b) = p a b
as_both p (Every r l) = false
as_both p (AtLeast m) = false

pub both_asked : (cs : List ℕ) (e : ℕ) (p : ℕ → ℕ → Bool) (f : Literal → Literal → Bool) (c : Concept) → ((a b : Literal) → p (code a) (code b) ≡ f a b)
    → c ≡ concept_at cs e → as_both p c ≡ is_both f (entry_of_fields (fields_at cs e))
unfolding concept_of is_both
both_asked cs e p f c h q = ap (as_both p) q ∙ go (entry_of_fields (fields_at cs e))
  where
    go : (x : Entry) → as_both p (concept_of x) ≡ is_both f x
    go top = refl
    go name = refl
    go (both a b) = h a b
    go (every r l) = refl
    go (at_least r l n) = refl

-- 16 and 17 in their order
module _ (D : Description) (num : ℕ → ℕ) (i N : ℕ) (x : Step) where
  abbrev named : Option Refusal
  named = refuse i (named_refusal D num i N x) none

  -- the first test refuses
  pub named_16 : (t : Bool) (z : Refusal) → t ≡ cite_test D num i N x → some z ≡ refuse i (unless t 16 none) none → some z ≡ named
  unfolding named_refusal
  named_16 true z e q = absurd (none-ne-some z (sym q))
  named_16 false z e q = q ∙ rw (← e) refl

  -- it does not, and what the second answers
  pub named_17 : (t u : Bool) (o : Option Refusal) → t ≡ cite_test D num i N x → u ≡ step_test D num i N x → none ≡ refuse i (unless t 16 none) none
      → o ≡ refuse i (unless u 17 none) none → o ≡ named
  unfolding named_refusal
  named_17 true u o e f q r = r ∙ rw (← e, ← f) refl
  named_17 false u o e f q r = absurd (none-ne-some _ q)

-- ---- 16 and 17 of each step, from the tests that the code makes
module _ (cs qs : List ℕ) (num : ℕ → ℕ) (i N : ℕ) where
  abbrev D : Description
  D = without_roles cs qs

  pub cite_1 : (l : ℕ) (a : Bool) → ltb (l / 2) (length cs / 6) ≡ a → cite_test D num i N (contradiction (literal l)) ≡ a
  unfolding cite_test
  cite_1 l a p = rw (← half_is l, p) refl

  pub follows_1 : (l m : ℕ) (a b : Bool) → m ≡ opposed l → in_label (members N) (literal l) ≡ a → in_label (members N) (literal m) ≡ b
      → step_test D num i N (contradiction (literal l)) ≡ (a && b)
  unfolding step_test
  follows_1 l m a b p q r = ap₂ ◌&&◌ q (ap (in_label (members N)) (sym (literal_code (opposite (literal l))) ∙ ap literal (sym p)) ∙ r)

  pub cite_2 : (e c : ℕ) (a b : Bool) → ltb e (length cs / 6) ≡ a → ltb c i ≡ b → cite_test D num i N (conjunction e c) ≡ (a && b)
  unfolding cite_test
  cite_2 e c a b p q = rw (p, q) refl

  pub follows_2 : (e c j : ℕ) (a b : Bool) → j ≡ c → members N (pos e) ≡ a → is_both (λ l m. within (num j) (adding (adding N l) m)) (D.entry e) ≡ b
      → step_test D num i N (conjunction e c) ≡ (a && b)
  unfolding step_test
  follows_2 e c j a b p q r = rw (← p, q, r) refl

  pub cite_3 : (e c d : ℕ) (a b f : Bool) → ltb e (length cs / 6) ≡ a → ltb c i ≡ b → ltb d i ≡ f → cite_test D num i N (disjunction e c d) ≡ (a && (b && f))
  unfolding cite_test
  cite_3 e c d a b f p q r = rw (p, q, r) refl

  pub follows_3 : (e c d j k : ℕ) (a b : Bool) → j ≡ c → k ≡ d → members N (neg e) ≡ a
      → is_both (λ l m. within (num j) (adding N (opposite l)) && within (num k) (adding N (opposite m))) (D.entry e) ≡ b
      → step_test D num i N (disjunction e c d) ≡ (a && b)
  unfolding step_test
  follows_3 e c d j k a b p o q r = rw (← p, ← o, q, r) refl

  pub rule_in_lem : (q : ℕ) → ltb q (length qs - 1) ≡ ltb (q + 1) (length qs)
  rule_in_lem q = elim (dec_lt (q + 1) (length qs)) [
    | yes h ↦ rw (lt-ltb (q + 1) (length qs) h) (lt-ltb q (length qs - 1) (omega arith))
    | no h ↦ (let z : length qs ≤ q + 1 = omega arith in rw (le-ltb (q + 1) (length qs) z) (le-ltb q (length qs - 1) (omega arith)))
  ]

  pub cite_4 : (q c : ℕ) (a b : Bool) → ltb q (length qs - 1) ≡ a → ltb c i ≡ b → cite_test D num i N (by_rule q c) ≡ (a && b)
  unfolding cite_test
  cite_4 q c a b p r = rw (p, r) refl

  pub follows_4 : (q c j m : ℕ) (a : Bool) → j ≡ c → m ≡ byte_at qs (q + 1) → within (num j) (adding N (literal m)) ≡ a → step_test D num i N (by_rule q c) ≡ a
  unfolding step_test
  follows_4 q c j m a p o r = rw (← p, ← o) r

  pub cite_5 : (e c d : ℕ) (a b f : Bool) → ltb e (length cs / 6) ≡ a → ltb c i ≡ b → ltb d i ≡ f → cite_test D num i N (case_split e c d) ≡ (a && (b && f))
  unfolding cite_test
  cite_5 e c d a b f p q r = rw (p, q, r) refl

  pub follows_5 : (e c d j k : ℕ) (a b : Bool) → j ≡ c → k ≡ d → within (num j) (adding N (pos e)) ≡ a → within (num k) (adding N (neg e)) ≡ b
      → step_test D num i N (case_split e c d) ≡ (a && b)
  unfolding step_test
  follows_5 e c d j k a b p o q r = rw (← p, ← o, q, r) refl

-- ---- the step that the bytes are, by its first byte
module _ (marks : Bool) (cs qs : List ℕ) (num : ℕ → ℕ) (ds : List ℕ) (i N : ℕ) (f : formed (step_in marks ds) ≡ true) where
  abbrev whole : Option Refusal
  whole = refuse i (step_named (without_roles cs qs) num i N (step_in marks ds)) none

  abbrev step : List ℕ → (ℕ → ℕ) → Step → Option Refusal
  step qs' lab x = refuse i (named_refusal (without_roles cs qs') lab i N x) none

  pub by_1 : (a : ℕ) → byte_at ds 0 ≡ 1 → a ≡ byte_at ds 1 → step [] (λ j. 0) (contradiction (literal a)) ≡ whole
  unfolding named_refusal cite_test step_test
  by_1 a e p = rw (p, step_1_is marks ds f e) refl

  pub by_2 : (a b : ℕ) → byte_at ds 0 ≡ 2 → a ≡ byte_at ds 1 → b ≡ byte_at ds 2 → step [] num (conjunction a b) ≡ whole
  unfolding named_refusal cite_test step_test
  by_2 a b e p q = rw (p, q, step_2_is marks ds f e) refl

  pub by_3 : (a b c : ℕ) → byte_at ds 0 ≡ 3 → a ≡ byte_at ds 1 → b ≡ byte_at ds 2 → c ≡ byte_at ds 3 → step [] num (disjunction a b c) ≡ whole
  unfolding named_refusal cite_test step_test
  by_3 a b c e p q r = rw (p, q, r, step_3_is marks ds f e) refl

  pub by_4 : (a b : ℕ) → byte_at ds 0 ≡ 4 → a ≡ byte_at ds 1 → b ≡ byte_at ds 2 → step qs num (by_rule a b) ≡ whole
  by_4 a b e p q = rw (p, q, step_4_is marks ds f e) refl

  pub by_5 : (a b c : ℕ) → byte_at ds 0 ≡ 5 → a ≡ byte_at ds 1 → b ≡ byte_at ds 2 → c ≡ byte_at ds 3 → step [] num (case_split a b c) ≡ whole
  unfolding named_refusal cite_test step_test
  by_5 a b c e p q r = rw (p, q, r, step_5_is marks ds f e) refl

  pub by_6 : (a : ℕ) → byte_at ds 0 ≡ 6 → a ≡ byte_at ds 1
      → refuse i (rows_refusal (without_roles cs []) i N (count_of marks ds (up_to 6 a))) none ≡ whole
  unfolding named_refusal cite_test step_test
  by_6 a e p = let w = step_6_is marks ds f e in let k = byte_at ds 1 in let K = count_of marks ds k in rw (p, up_to_all 6 k w.2, w.4)
      (ap (λ g. refuse i (unless (cite_test (without_roles cs []) (λ j. 0) i N (counting K)) 16
      (unless (each K.rows (λ l. members N l && g l) && all_below (length K.rows) (λ j. ltb (suc j) (length K.rows) ⇒ ltb (code (literal_at K.rows j)) (code (literal_at K.rows (suc j))))) 17 none)) none)
      (fun_ext (λ l. ap is_row (row_same [] cs qs none l))))

-- 10 and 16 of the label before them
module _ (D : Description) (num : ℕ → ℕ) (i N : ℕ) where
  abbrev all : Option Step → Option Refusal
  all o = refuse i (step_refusal D num i N o) none

  pub form_off : (o : Option Step) (z : Refusal) → some z ≡ refuse i (unless (formed o) 10 none) none → some z ≡ all o
  form_off none z q = q
  form_off (some x) z q = absurd (none-ne-some z (sym q))

  pub form_on : (o : Option Step) → none ≡ refuse i (unless (formed o) 10 none) none → formed o ≡ true
  form_on none q = absurd (none-ne-some _ q)
  form_on (some x) q = refl

  pub label_off : (o : Option Step) (t : Bool) (z : Refusal) → formed o ≡ true → t ≡ narrow N (2 * D.entries) → some z ≡ refuse i (unless t 16 none) none
      → some z ≡ all o
  label_off none t z h e q = absurd (false≢true h)
  label_off (some x) true z h e q = absurd (none-ne-some z (sym q))
  label_off (some x) false z h e q = q ∙ rw (← e) refl

  pub label_on : (o : Option Step) (t : Bool) → formed o ≡ true → t ≡ narrow N (2 * D.entries) → none ≡ refuse i (unless t 16 none) none
      → refuse i (step_named D num i N o) none ≡ all o
  label_on none t h e q = absurd (false≢true h)
  label_on (some x) true h e q = rw (← e) refl
  label_on (some x) false h e q = absurd (none-ne-some _ q)

-- a label lies in any table of the most entries and more
pub table_wide : (cs : List ℕ) (N n : ℕ) → N < 2 ^ most_literals → n ≡ entry_count cs → narrow N (2 * n) ≡ narrow N (2 * (length cs / 6))
table_wide cs N n few p = elim (dec_le most_entries (length cs / 6)) [
  | yes q ↦ rw (p, ← up_to_most most_entries (length cs / 6) q)
      (sym (narrow_whole most_literals N (2 * most_entries) few (omega arith)) ∙ narrow_whole most_literals N (2 * (length cs / 6)) few (omega arith))
  | no q ↦ rw (p, up_to_all most_entries (length cs / 6) (let z : length cs / 6 ≤ most_entries = omega arith in z)) refl
]
