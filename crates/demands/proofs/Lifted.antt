-- Demand 3 on bytes: lifted evidence and the bytes that it is read from, and the answers to them (01, "Evidence", last paragraph).
use Rattle.std.specs.Prelude.{ℕ, ◌^◌, ◌≤◌, ◌≡◌, ◌↔◌, ◌⊎◌, List, length}
use Rattle.std.proofs.Common.{sym, ◌∙◌, ap, subst, inl, inr, arith}
use Rattle.std.proofs.Math.Option.{none}
use Rattle.description.specs.Descriptions.{Description}
use Rattle.graph.specs.Graphs.{Graph}
use Rattle.refutation.specs.Records.{Refutation}
use Rattle.checker.specs.Demands as Checked
use Rattle.intake.specs.Intake.{described, AcceptedBytes}
use Rattle.evidence.specs.declared.Layout.{Layout}
use Rattle.evidence.specs.Evidence.{layout_of}
use Rattle.laying.specs.Places.{Small, small_all}
use Rattle.encoding.specs.Encoding.{encode_graph, GraphStored, encode_refutation, RefutationStored}
use Rattle.encoding.proofs.Encoding.{graph_stored, graph_bytes, graph_fits, graph_again, refutation_stored, refutation_bytes, refutation_fits, refutation_again}
use Rattle.answers.specs.Answers.{INHABITED, EMPTY, answer}
use Rattle.verdict.specs.Verdict.{verdict}
use Rattle.demands.specs.Exact.{inhabited↔, empty↔}
use Rattle.demands.specs.Lifted.{Evidence, sample, refutation, KeepsRules, WithinLimits, word_of, Decodes, Stored, encode}
use Rattle.demands.proofs.Decoded.{decoded↔}

-- ---- the answers to bytes that are evidence
module _ (d : List ℕ) (accepted : AcceptedBytes d) where
  -- how evidence for it is stored
  abbrev stores : Layout
  stores = layout_of (described d)

  -- within the limits it keeps the rules exactly when the answer is INHABITED or EMPTY
  pub keeps_when : (s : List ℕ) (E : Evidence) → Decodes stores s E → WithinLimits E
      → KeepsRules (described d) E ↔ ((verdict d s ≡ answer INHABITED none) ⊎ (verdict d s ≡ answer EMPTY none))
  keeps_when s (sample G) is fits = let w = decoded↔ d accepted s (sample G) is in (
    λ k. inl (w.1 (k, fits)),
    λ t. elim t [ inl e ↦ (w.0 e).0 | inr e ↦ absurd (omega (arith, is.1, ((empty↔ d s).0 e).1.is_a_list)) ],
  )
  keeps_when s (refutation C) is fits = let w = decoded↔ d accepted s (refutation C) is in (
    λ k. inr (w.1 (k, fits)),
    λ t. elim t [ inl e ↦ absurd (omega (arith, is.1, ((inhabited↔ d s).0 e).1.is_graph)) | inr e ↦ (w.0 e).0 ],
  )

-- bytes are one evidence at most
pub decodes_one : (f : Layout) (s : List ℕ) (E F : Evidence) → Decodes f s E → Decodes f s F → E ≡ F
decodes_one f s (sample G) (sample H) p q = ap sample (sym p.3 ∙ q.3)
decodes_one f s (sample G) (refutation C) p q = absurd (omega (arith, p.1, q.1))
decodes_one f s (refutation C) (sample G) p q = absurd (omega (arith, p.1, q.1))
decodes_one f s (refutation C) (refutation B) p q = ap refutation (sym p.3 ∙ q.3)

-- ---- lifted evidence that bytes have room for is the evidence of some bytes
pub stored : (f : Layout) (E : Evidence) → Stored f E → Small (encode f E) × Decodes f (encode f E) E
stored f (sample G) w = (small_all (graph_bytes f G w), graph_stored f G w)
stored f (refutation C) w = (small_all (refutation_bytes f C w), refutation_stored f C w)

-- and the evidence of some bytes is lifted evidence that bytes have room for,
pub decoded_stored : (f : Layout) (s : List ℕ) (E : Evidence) → Small s → Decodes f s E → Stored f E
decoded_stored f s (sample G) b (head, kind, forms, is) = subst (GraphStored f) is (graph_fits f b head forms)
decoded_stored f s (refutation C) b (head, kind, forms, is) = subst (RefutationStored f) is (refutation_fits f b head forms)

-- of no other bytes: it is written as they are
pub encode_decoded : (f : Layout) (s : List ℕ) (E : Evidence) → Small s → Decodes f s E → encode f E ≡ s
encode_decoded f s (sample G) b (head, kind, forms, is) = subst (λ H. encode_graph f H ≡ s) is (graph_again f b head forms kind)
encode_decoded f s (refutation C) b (head, kind, forms, is) = subst (λ B. encode_refutation f B ≡ s) is (refutation_again f b head forms kind)

-- so bytes have room for what some bytes are, and for nothing else
pub stored_when : (f : Layout) (E : Evidence) → Stored f E ↔ ((s : List ℕ) × Small s × Decodes f s E)
stored_when f E = (λ w. (encode f E, (stored f E w).0, (stored f E w).1), λ t. decoded_stored f t.0 E t.1 t.2)

-- within the limits, then, it keeps the rules exactly when its word is the answer to its bytes
pub stored↔ : (d : List ℕ) → AcceptedBytes d → let f = layout_of (described d) in (E : Evidence) → Stored f E → WithinLimits E
    → KeepsRules (described d) E ↔ (verdict d (encode f E) ≡ answer (word_of E) none)
stored↔ d a E w fits = let f = layout_of (described d) in let t = decoded↔ d a (encode f E) E (stored f E w).1 in (λ k. t.1 (k, fits), λ e. (t.0 e).0)

-- ---- for every accepted description
module _ (d : List ℕ) (accepted : AcceptedBytes d) where
  abbrev D : Description
  D = described d

  -- a graph that keeps the rules exists or a refutation that does, and never both
  pub exactly_one : (((G : Graph) × KeepsRules D (sample G)) ⊎ ((C : Refutation) × KeepsRules D (refutation C)))
      × (((G : Graph) × KeepsRules D (sample G)) → ((C : Refutation) × KeepsRules D (refutation C)) → ⊥)
  exactly_one = let t = Checked.one_of_two D accepted.accepted in (elim t.0 [ inl g ↦ inl (g.0, g.1) | inr c ↦ inr c ], t.1)

  -- and if any graph does, however large, so does one of at most 2^entries nodes
  pub few_nodes : (G : Graph) → KeepsRules D (sample G) → (H : Graph) × KeepsRules D (sample H) × (length H ≤ 2 ^ D.entries)
  few_nodes = Checked.few_nodes D accepted.accepted
