-- Claims on bytes: for lifted evidence exactly one of the three answers has any, so no claim has two (02, job 1).
use Rattle.std.specs.Prelude.{ℕ, ◌<◌, ◌≡◌, ◌⊎◌, List}
use Rattle.std.proofs.Common.{sym, subst, inl, inr}
use mathlib.Core.List.Memᴰ
use Rattle.std.proofs.Math.Option.{none}
use Rattle.logic.specs.Lists.{◌∈◌}
use Rattle.description.specs.Literals.{Literal, literal, entry_of, entry_of_opposite}
use Rattle.description.specs.Descriptions.{Description}
use Rattle.description.specs.Acceptance.{Accepted}
use Rattle.interpretation.specs.Meaning.{Interpretation}
use Rattle.interpretation.specs.Models.{Satisfies}
use Rattle.graph.specs.Line.{line}
use Rattle.graph.proofs.Sound.{graph_sound}
use Rattle.refutation.proofs.Sound.{refutation_sound}
use Rattle.completeness.specs.Dichotomy.{dichotomy, exclusive}
use Rattle.intake.specs.Intake.{described}
use Rattle.demands.specs.Exact.{graph_of}
use Rattle.answers.specs.Answers.{HOLDS, FAILS, HOLDS_OF_NOTHING, answer}
use Rattle.claims.specs.Claims.{subject, counterexample, claim_answer}
use Rattle.demands.specs.ClaimExact.{ClaimIn, HoldsLifted, FailsLifted, NothingLifted, holds_true, fails_true, nothing_true}

-- what has C and not D has C
has_subject : (D : Description) (c d : ℕ) (I : Interpretation) → Satisfies D (counterexample c d) I → Satisfies D (subject c) I
has_subject D c d I w = (w.0, w.1, λ l m. w.2 l (elim (Memᴰ.cases_cons m) [ inl q ↦ Memᴰ.head q | inr u ↦ elim u [ ] ]))

module _ (D : Description) (A : Accepted D) (c d : ℕ) (i : ClaimIn D c d) where
  subject_in : (l : Literal) → l ∈ subject c → entry_of l < D.entries
  subject_in l m = elim (Memᴰ.cases_cons m) [ inl q ↦ subst (λ k. entry_of k < D.entries) (sym q) i.0 | inr u ↦ elim u [ ] ]

  counter_in : (l : Literal) → l ∈ counterexample c d → entry_of l < D.entries
  counter_in l m = elim (Memᴰ.cases_cons m) [
    | inl q ↦ subst (λ k. entry_of k < D.entries) (sym q) i.0
    | inr u ↦ elim (Memᴰ.cases_cons u) [
      | inl q ↦ subst (λ k. entry_of k < D.entries) (sym q) (rw (entry_of_opposite (literal d)) i.1)
      | inr v ↦ elim v [ ]
    ]
  ]

  one_of_three : HoldsLifted D c d ⊎ (FailsLifted D c d ⊎ NothingLifted D c d)
  one_of_three = elim (dichotomy D A (subject c) subject_in) [
    | inr n ↦ inr (inr n)
    | inl b ↦ elim (dichotomy D A (counterexample c d) counter_in) [ inl g ↦ inr (inl (g.0, g.1)) | inr r ↦ inl (r, (b.0, b.1)) ]
  ]

  -- for an accepted description and literals of the table, exactly one of the three has lifted evidence
  pub exactly_one : (HoldsLifted D c d ⊎ (FailsLifted D c d ⊎ NothingLifted D c d))
      × ((HoldsLifted D c d → FailsLifted D c d → ⊥)
      × ((HoldsLifted D c d → NothingLifted D c d → ⊥) × (FailsLifted D c d → NothingLifted D c d → ⊥)))
  exactly_one = (
    one_of_three,
    (
      λ h f. exclusive D A (counterexample c d) counter_in f.0 f.1 h.0.0 h.0.1,
      (
        λ h n. exclusive D A (subject c) subject_in h.1.0 h.1.1 n.0 n.1,
        λ f n. let w = graph_sound D A (counterexample c d) f.0 f.1 in
            refutation_sound D A (subject c) n.0 n.1 (line D f.0) w.0 (has_subject D c d (line D f.0) w.1),
      ),
    ),
  )

-- so no claim has two answers, whatever the evidence
module _ (x : List ℕ) (c d : ℕ) (s t u v : List ℕ) where
  pub never_holds_and_fails : claim_answer x c d s t ≡ answer HOLDS none → claim_answer x c d u v ≡ answer FAILS none → ⊥
  never_holds_and_fails p q = let f = fails_true x c d u v q in (holds_true x c d s t p).0 (line (described x) (graph_of x u)) f.0 f.1

  pub never_holds_and_nothing : claim_answer x c d s t ≡ answer HOLDS none → claim_answer x c d u v ≡ answer HOLDS_OF_NOTHING none → ⊥
  never_holds_and_nothing p q = let h = holds_true x c d s t p in
      nothing_true x c d u v q (line (described x) (graph_of x t)) h.1.0 h.1.1

  pub never_fails_and_nothing : claim_answer x c d s t ≡ answer FAILS none → claim_answer x c d u v ≡ answer HOLDS_OF_NOTHING none → ⊥
  never_fails_and_nothing p q = let f = fails_true x c d s t p in let I = line (described x) (graph_of x s) in
      nothing_true x c d u v q I f.0 (has_subject (described x) c d I f.1)
