-- Demand 3 on bytes: the answers to bytes that are lifted evidence (01, "Evidence", last paragraph).
use Rattle.std.specs.Prelude.{ℕ, ◌≡◌, refl, ◌↔◌, ◌⊎◌, List}
use Rattle.std.proofs.Common.{subst, inl, inr}
use Rattle.std.proofs.Math.Option.{none}
use Rattle.intake.specs.Intake.{described, AcceptedBytes}
use Rattle.evidence.specs.declared.Layout.{Layout}
use Rattle.evidence.specs.Evidence.{layout_of, graph_in}
use Rattle.lists.specs.Lists.{refutation_in}
use Rattle.answers.specs.Answers.{INHABITED, EMPTY, answer}
use Rattle.verdict.specs.Verdict.{verdict}
use Rattle.demands.specs.Exact.{inhabited↔, empty↔}
use Rattle.demands.specs.Lifted.{Evidence, sample, refutation, KeepsRules, WithinLimits, word_of, Decodes}

-- ---- the answers to bytes that are evidence
module _ (d : List ℕ) (accepted : AcceptedBytes d) where
  -- how evidence for it is stored
  abbrev stores : Layout
  stores = layout_of (described d)

  -- its word is told exactly if it keeps the rules and the limits
  pub decoded↔ : (s : List ℕ) (E : Evidence) → Decodes stores s E → (verdict d s ≡ answer (word_of E) none) ↔ (KeepsRules (described d) E × WithinLimits E)
  decoded↔ s (sample G) (head, kind, forms, is) =
      subst (λ H. (verdict d s ≡ answer INHABITED none) ↔ (KeepsRules (described d) (sample H) × WithinLimits (sample H))) is (
        λ e. let k = ((inhabited↔ d s).0 e).1 in (k.keeps, k.fits),
        λ k. (inhabited↔ d s).1 (accepted, record { head = head; is_graph = kind; formed = forms; fits = k.1; keeps = k.0 }),
      )
  decoded↔ s (refutation C) (head, kind, forms, is) =
      subst (λ B. (verdict d s ≡ answer EMPTY none) ↔ (KeepsRules (described d) (refutation B) × WithinLimits (refutation B))) is (
        λ e. let k = ((empty↔ d s).0 e).1 in (k.closes, k.fits),
        λ k. (empty↔ d s).1 (accepted, record { head = head; is_a_list = kind; formed = forms; fits = k.1; closes = k.0 }),
      )

-- and only evidence that keeps the rules is answered so: bytes that are none never are
pub only_evidence : (d s : List ℕ) → (verdict d s ≡ answer INHABITED none) ⊎ (verdict d s ≡ answer EMPTY none)
    → (E : Evidence) × Decodes (layout_of (described d)) s E × KeepsRules (described d) E × WithinLimits E
only_evidence d s (inl e) = let k = ((inhabited↔ d s).0 e).1 in (sample (graph_in (layout_of (described d)) s), (k.head, k.is_graph, k.formed, refl), k.keeps, k.fits)
only_evidence d s (inr e) = let k = ((empty↔ d s).0 e).1 in (refutation (refutation_in (layout_of (described d)) s), (k.head, k.is_a_list, k.formed, refl), k.closes, k.fits)
