-- The answers in their order: those of the description, then 23, then the reading.
use Rattle.std.specs.Prelude.{ℕ, ◌*◌, ◌/◌, ◌+◌, ◌≤◌, ◌<◌, ◌≡◌, Bool, true, false, cond, ◌&&◌, List, [], ◌∷◌, length, Err}
use Rattle.std.proofs.Math.Path.{refl}
use Rattle.std.proofs.Common.{sym, ◌∙◌, ap, ap₂, arith}
use Rattle.std.proofs.Math.Option.{Option, none, some}
use Rattle.logic.specs.Tests.{◌⇒◌, leb_so, same_test}
use Rattle.logic.specs.Bounded.{all_below, all_cong, below}
use Rattle.logic.specs.Refusals.{Refusal, unless, refuse}
use Rattle.logic.specs.Sets.{has, within}
use Rattle.logic.specs.SetLaws.{within↔}
use Rattle.parts.specs.Numbers.{num2}
use Rattle.description.specs.Descriptions.{Description, included}
use Rattle.description.specs.Acceptance.{Accepted}
use Rattle.tables.specs.Tables.{records_in, describe}
use Rattle.roles.specs.Disjoint.{compatible_by}
use Rattle.roles.specs.Records.{MasksOf, masks_compatible}
use Rattle.answers.specs.declared.Reason.TheVariants.{LineForm}
use Rattle.answers.specs.declared.Refusal as Refusals
use Rattle.answers.specs.Reasons.{refused}
use Rattle.answers.specs.Answers.{Answer, Word, HOLDS, FAILS, REFUSED, answer, numbered, wholly, of_reading}
use Rattle.directory.specs.Directory.{roles_part, concepts_part, query_part, disjoint_part}
use Rattle.intake.specs.Intake.{AcceptedParts, parts_accepted, bytes_test}
use Rattle.intake.specs.Opening.{wholly_none, parts_fine}
use Rattle.interpretation.specs.Meaning.{Interpretation}
use Rattle.interpretation.specs.Reading.{includes, composes, separates, follows, satisfies, reads}
use Rattle.labels.specs.Labels.{wide, name_bytes}
use Rattle.lines.specs.Lines.{name_at, line_in, line_test, elements, most_elements, line↔}
use Rattle.line_reader.specs.Reading.{read_refusal, read_answer}
use Rattle.line_reader.specs.LineSteps.{sized, mask_at, pair_in, up_at, composes_at, separated_by, all_rows}

-- a model with the root somewhere
abbrev pub model_test : List ℕ → List ℕ → List ℕ → Option (List ℕ) → Interpretation → Bool
model_test rs cs qs p I = reads (describe rs cs qs p) I ((describe rs cs qs p).root ∷ [])

-- what is answered of the line
abbrev pub answer_after : List ℕ → List ℕ → List ℕ → Option (List ℕ) → List ℕ → Option Refusal → Answer
answer_after rs cs qs p s o = answer (cond (model_test rs cs qs p (line_in (wide (length cs / 6)) s)) HOLDS FAILS) o

abbrev line_refusal : List ℕ → List ℕ → List ℕ → Option (List ℕ) → List ℕ → Option Refusal
line_refusal rs cs qs p s = refuse 0 (unless (line_test (describe rs cs qs p) s) 23 none) none

unfoldable pub line_answer : List ℕ → List ℕ → List ℕ → Option (List ℕ) → List ℕ → Answer
line_answer rs cs qs p s = answer_after rs cs qs p s (line_refusal rs cs qs p s)

-- ---- the reading
-- what the reading asks but for the records of the fourth part
abbrev pub plain_test : Description → Interpretation → Bool
plain_test D I = includes D I && (composes D I && (follows D I && satisfies D I (D.root ∷ [])))

module _ (rs cs qs : List ℕ) (p : Option (List ℕ)) (s : List ℕ) (broad : Bool) (at d : ℕ) (w : at ≡ name_at (name_bytes broad) d)
    (A : Accepted (describe rs cs qs p)) where
  abbrev D : Description
  D = describe rs cs qs p

  -- the inclusions of role r, pair by pair
  up_at_lem : (r : ℕ) → r < length rs / 3 → up_at rs s at d r
      ≡ all_below (length rs / 3) (λ q. included D r q ⇒ all_below d (λ x. all_below d (λ y. pair_in s at d r x y ⇒ pair_in s at d q x y)))
  up_at_lem r h = all_rows d d (λ q. has (mask_at s at q) r ⇒ within (num2 rs (3 * r + 1)) (mask_at s at q)) ∙ same_test _ _
      (λ u. let v = simp (below, within↔) at u in simp below (λ q hq p x hx y hy w. v x hx y hy w q p))
      (λ u. let v = simp below at u in simp (below, within↔) (λ x hx y hy w q p. v q (A.parents_in r h q p) p x hx y hy w))

  pub plain_read : (up on rules root : Bool) → up ≡ all_below (length rs / 3) (up_at rs s at d)
      → on ≡ all_below (length rs / 3) (composes_at rs d (pair_in s at d)) → rules ≡ follows D (sized broad s d)
      → root ≡ satisfies D (sized broad s d) (D.root ∷ []) → (up && (on && (rules && root))) ≡ plain_test D (sized broad s d)
  unfolding includes composes
  plain_read up on rules root h q r t = rw (h ∙ all_cong (length rs / 3) _ _ up_at_lem, q, r, t, w) refl

  -- with the records, as the masks have them
  pub model_read : (a : List ℕ) (apart rest : Bool) → MasksOf rs (records_in p) a → length rs / 3 ≤ 16 → length (records_in p) / 2 ≤ 16 → 1 ≤ d
      → apart ≡ separated_by a s at d → rest ≡ plain_test D (sized broad s d) → (apart && rest) ≡ model_test rs cs qs p (sized broad s d)
  unfolding separates
  model_read a apart rest masks few short h e f = rw (leb_so 1 d h) (ap₂ (λ x y. x && y) (e ∙ separated) f
      ∙ turned (separates D I) (includes D I) (composes D I) (follows D I && satisfies D I (D.root ∷ [])))
    where
      I : Interpretation
      I = sized broad s d

      separated : separated_by a s at d ≡ separates D I
      separated = all_rows d d (λ q. compatible_by a (mask_at s at q)) ∙ all_cong d _ _ (λ x _. all_cong d _ _ (λ y _.
          masks_compatible rs cs qs p a masks few short A (mask_at s at (x * d + y)) ∙ rw w refl))

      turned : (x i c r : Bool) → (x && (i && (c && r))) ≡ (i && (c && (x && r)))
      turned true i c r = refl
      turned false true true r = refl
      turned false true false r = refl
      turned false false c r = refl

-- ---- 23, then the word
module _ (rs cs qs : List ℕ) (p : Option (List ℕ)) (s : List ℕ) where
  pub line_fits : line_test (describe rs cs qs p) s ≡ true → (1 ≤ elements s) × (elements s ≤ most_elements)
  line_fits h = let o = (line↔ (describe rs cs qs p) s).0 h in (o.some_element, o.few_elements)

  pub line_refused : line_test (describe rs cs qs p) s ≡ false → of_reading (Err (refused LineForm 0)) ≡ line_answer rs cs qs p s
  unfolding line_answer
  line_refused e = rw e refl

  pub line_answered : (broad : Bool) (d : ℕ) (b : Bool) → broad ≡ wide (length cs / 6) → line_test (describe rs cs qs p) s ≡ true
      → d ≡ elements s → b ≡ model_test rs cs qs p (sized broad s d) → answer (cond b HOLDS FAILS) none ≡ line_answer rs cs qs p s
  unfolding line_answer
  line_answered broad d b w e q f = rw (e, f, q, w) refl

-- ---- the description, then the line
-- what refuses first is answered, whatever comes after
first_stops : (w : Word) (x : Refusal) (o : Option ℕ) (later : Option Refusal) → some x ≡ wholly o → answer REFUSED (some x) ≡ answer w (refuse 0 o later)
first_stops w x none later q = absurd (let z : ◌≡◌ {A = ℕ} 0 1 = cc in omega arith)
first_stops w x (some m) later q = ap (answer w) q

module _ (d s : List ℕ) where
  pub read_refused : (r : Refusals.Refusal) → some (numbered r) ≡ wholly (bytes_test d) → of_reading (Err r) ≡ read_answer d s
  unfolding read_answer read_refusal
  read_refused r e = first_stops _ _ (bytes_test d) _ e

  module _ (e : none ≡ wholly (bytes_test d)) (rs cs qs : List ℕ) (k : rs ≡ roles_part d) (q : cs ≡ concepts_part d) (r : qs ≡ query_part d) where
    fine : bytes_test d ≡ none
    fine = sym (wholly_none (bytes_test d) e)

    pub read_ready : AcceptedParts rs cs qs (disjoint_part d)
    read_ready = rw (k, q, r) (parts_accepted (roles_part d) (concepts_part d) (query_part d) (disjoint_part d) (parts_fine d fine))

    pub read_opened : line_answer rs cs qs (disjoint_part d) s ≡ read_answer d s
    unfolding line_answer read_answer read_refusal
    read_opened = rw (k, q, r, fine) refl
