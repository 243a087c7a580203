-- Demand 2 on bytes: when INHABITED and EMPTY are told. (That they are then true stands in proofs/True, that after INHABITED the line is written in proofs/Exact.)
use Rattle.std.specs.Prelude.{ℕ, ◌≡◌, refl, ◌↔◌, Bool, true, false, cond, List}
use Rattle.std.proofs.Math.Option.{none}
use Rattle.std.proofs.Common.{arith}
use Rattle.logic.specs.Refusals.{refuse↔}
use Rattle.description.specs.Descriptions.{Description, wanted}
use Rattle.graph.specs.Graphs.{Graph}
use Rattle.refutation.specs.Records.{Refutation}
use Rattle.intake.specs.Intake.{described, AcceptedBytes, accepted_bytes↔}
use Rattle.evidence.specs.Evidence.{layout_of, graph_in}
use Rattle.graph_check.specs.GraphEvidence.{GraphKept, kept↔}
use Rattle.lists.specs.Lists.{refutation_in}
use Rattle.lists.specs.ListEvidence.{ListKept}
use Rattle.lists.proofs.ListEvidence.{list_kept↔}
use Rattle.answers.specs.Answers.{Word, REFUSED, INHABITED, EMPTY, answer, told↔}
use Rattle.verdict.specs.Verdict.{is_list, evidence_tests, evidence_refused, shown, verdict}

-- a word but REFUSED is told exactly if it is what such evidence shows and none of 1 to 20 and 26 refuses
shown↔ : (d s : List ℕ) (w : Word) → (REFUSED ≡ w → ⊥)
    → (verdict d s ≡ answer w none) ↔ ((shown s ≡ w) × (AcceptedBytes d × (evidence_tests (described d) s ≡ none)))
unfolding verdict
shown↔ d s w h = simp (told↔ (shown s) w (evidence_refused d s) h, refuse↔, accepted_bytes↔) (λ t. t, λ t. t)

-- by the kind byte
shows_graph : (s : List ℕ) → shown s ≡ INHABITED → is_list s ≡ false
shows_graph s = go (is_list s)
  where
    go : (b : Bool) → cond b EMPTY INHABITED ≡ INHABITED → b ≡ false
    go true e = absurd (let z : ◌≡◌ {A = ℕ} 0 1 = cc in omega arith)
    go false e = refl

shows_list : (s : List ℕ) → shown s ≡ EMPTY → is_list s ≡ true
shows_list s = go (is_list s)
  where
    go : (b : Bool) → cond b EMPTY INHABITED ≡ EMPTY → b ≡ true
    go true e = refl
    go false e = absurd (let z : ◌≡◌ {A = ℕ} 0 1 = cc in omega arith)

-- ---- what the bytes of evidence are, stored as for the description
abbrev pub graph_of : List ℕ → List ℕ → Graph
graph_of d s = graph_in (layout_of (described d)) s

abbrev pub refutation_of : List ℕ → List ℕ → Refutation
refutation_of d s = refutation_in (layout_of (described d)) s

-- ---- exactly when
pub inhabited↔ : (d s : List ℕ) → (verdict d s ≡ answer INHABITED none) ↔ (AcceptedBytes d × GraphKept (described d) (wanted (described d)) s)
inhabited↔ d s = let w = shown↔ d s INHABITED (λ e. let z : ◌≡◌ {A = ℕ} 0 1 = cc in omega arith) in (
  λ e. let t = w.0 e in (t.1.0, (kept↔ (described d) (wanted (described d)) s).0 (rw (shows_graph s t.0) at t.1.1)),
  λ k. w.1 (rw k.1.is_graph (refl, (k.0, (kept↔ (described d) (wanted (described d)) s).1 k.1))),
)

pub empty↔ : (d s : List ℕ) → (verdict d s ≡ answer EMPTY none) ↔ (AcceptedBytes d × ListKept (described d) (wanted (described d)) s)
empty↔ d s = let w = shown↔ d s EMPTY (λ e. let z : ◌≡◌ {A = ℕ} 0 1 = cc in omega arith) in (
  λ e. let t = w.0 e in (t.1.0, (list_kept↔ D t.1.0.accepted (wanted D) s).0 (rw (shows_list s t.0) at t.1.1)),
  λ k. w.1 (rw k.1.is_a_list (refl, (k.0, (list_kept↔ D k.0.accepted (wanted D) s).1 k.1))),
)
  where
    D : Description
    D = described d
