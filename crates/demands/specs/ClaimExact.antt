-- Claims on bytes: each answer is told exactly when its evidence keeps the rules, and it is true (02, job 1).
use Rattle.std.specs.Prelude.{ℕ, ◌<◌, ◌≡◌, ◌↔◌, Bool, true, false, List, [], ◌∷◌, length, Some, None, Result, Ok, Err}
use Rattle.std.specs.Prelude as Code
use Rattle.std.proofs.Math.Path.{refl}
use Rattle.std.proofs.Common.{sym, ◌∙◌, ap, subst, arith}
use Rattle.std.proofs.Math.Option.{none, some, none-ne-some}
use borrow.Author.Tests.{ne_eqb}
use Rattle.logic.specs.Tests.{reading}
use Rattle.logic.specs.Refusals.{unless↔, refuse↔, first↔}
use Rattle.parts.specs.Numbers.{byte_at}
use Rattle.description.specs.Literals.{literal, entry_of}
use Rattle.description.specs.Descriptions.{Description}
use Rattle.interpretation.specs.Meaning.{Interpretation}
use Rattle.interpretation.specs.Models.{Model, Satisfies}
use Rattle.graph.specs.Graphs.{Graph, Keeps}
use Rattle.graph.specs.Line.{line}
use Rattle.graph.proofs.Sound.{graph_sound}
use Rattle.refutation.specs.Records.{Refutation, Closes}
use Rattle.refutation.proofs.Sound.{refutation_sound}
use Rattle.intake.specs.Intake.{described, AcceptedBytes, accepted_bytes↔}
use Rattle.demands.specs.Exact.{graph_of, refutation_of}
use Rattle.evidence.specs.Evidence.{record_count, HeadOk, head↔, head_of, head_graph, head_refutation}
use Rattle.evidence.specs.declared.Head.{Head}
use Rattle.evidence.specs.declared.Head.TheVariants.{GraphOf, RefutationOf}
use Rattle.graph_check.specs.GraphEvidence.{GraphKept, kept↔}
use Rattle.lists.specs.ListEvidence.{ListKept}
use Rattle.lists.proofs.ListEvidence.{list_kept↔}
use Rattle.answers.specs.declared.Judgement.{Judgement}
use Rattle.answers.specs.declared.Judgement.TheVariants.{Holds, Fails, HoldsOfNothing}
use Rattle.answers.specs.declared.Refusal as Refusals
use Rattle.answers.specs.declared.Reason.TheVariants as Reasons
use Rattle.answers.specs.Reasons.{number_of, refused}
use Rattle.answers.proofs.Judgements.{judgement↔}
use Rattle.answers.specs.Answers.{Word, REFUSED, INHABITED, EMPTY, WRITTEN, HOLDS, FAILS, HOLDS_OF_NOTHING, DONE, answer, told↔, of_judgement, case_when}
use Rattle.claims.specs.declared.Pieces.{Pieces}
use Rattle.claims.specs.declared.Pieces.TheVariants.{ListAndGraph, GraphAlone, ListAlone}
use Rattle.claims.proofs.ClaimSteps.{second_some}
use Rattle.claims.specs.Claims.{subject, counterexample, second_of, pieces, pieces_of, kinds_refusal, pieces_tests, shows, claim_refused, claim_answer}

-- C and D are literals of the table
abbrev pub ClaimIn : Description → ℕ → ℕ → Type 0
ClaimIn D c d = (entry_of (literal c) < D.entries) × (entry_of (literal d) < D.entries)

-- what each answer says of bytes: HOLDS of a list and a graph, FAILS of a graph, HOLDS OF NOTHING of a list
abbrev pub HoldsOf : Description → ℕ → ℕ → List ℕ → List ℕ → Type 0
HoldsOf D c d s t = ListKept D (counterexample c d) s × GraphKept D (subject c) t

abbrev pub FailsOf : Description → ℕ → ℕ → List ℕ → List ℕ → Type 0
FailsOf D c d s t = GraphKept D (counterexample c d) s × (t ≡ [])

abbrev pub NothingOf : Description → ℕ → ℕ → List ℕ → List ℕ → Type 0
NothingOf D c d s t = ListKept D (subject c) s × (t ≡ [])

-- ---- by the kinds of the pieces
-- the kinds that show a word
abbrev kinds_for : Word → Result Pieces Refusals.Refusal
kinds_for REFUSED = Err (refused Reasons.Head 0)
kinds_for INHABITED = Err (refused Reasons.Head 0)
kinds_for EMPTY = Err (refused Reasons.Head 0)
kinds_for WRITTEN = Err (refused Reasons.Head 0)
kinds_for HOLDS = Ok ListAndGraph
kinds_for FAILS = Ok GraphAlone
kinds_for HOLDS_OF_NOTHING = Ok ListAlone
kinds_for DONE = Err (refused Reasons.Head 0)

fitting : (p : Result Pieces Refusals.Refusal) → kinds_refusal p ≡ none → p ≡ kinds_for (shows p)
fitting (Ok ListAndGraph) e = refl
fitting (Ok GraphAlone) e = refl
fitting (Ok ListAlone) e = refl
fitting (Err r) e = absurd (none-ne-some (number_of r.reason) (sym e))

-- REFUSED is no word of theirs
not_refused : (w : Word) → kinds_refusal (kinds_for w) ≡ none → REFUSED ≡ w → ⊥
not_refused w k e = none-ne-some 9 (sym k ∙ ap (λ v. kinds_refusal (kinds_for v)) (sym e))

-- no piece but the first
abbrev single : Result Pieces Refusals.Refusal → Bool
single (Ok ListAndGraph) = false
single (Ok GraphAlone) = true
single (Ok ListAlone) = true
single (Err r) = false

none_second : (h : Code.Option Head) (t : List ℕ) → single (pieces h (second_of t)) ≡ true → t ≡ []
unfolding pieces
none_second h [] e = refl
none_second h (b ∷ t) e = absurd (two h (head_of (b ∷ t)) (ap single (second_some h (head_of (b ∷ t)) (b ∷ t) (λ z. omega arith) refl) ∙ e))
  where
    two : (h k : Code.Option Head) → single (pieces h (some k)) ≡ true → ⊥
    two None k e = let z : ◌≡◌ {A = ℕ} 0 1 = cc in omega arith
    two (Some (GraphOf n)) None e = let z : ◌≡◌ {A = ℕ} 0 1 = cc in omega arith
    two (Some (GraphOf n)) (Some (GraphOf m)) e = let z : ◌≡◌ {A = ℕ} 0 1 = cc in omega arith
    two (Some (GraphOf n)) (Some (RefutationOf m)) e = let z : ◌≡◌ {A = ℕ} 0 1 = cc in omega arith
    two (Some (RefutationOf n)) None e = let z : ◌≡◌ {A = ℕ} 0 1 = cc in omega arith
    two (Some (RefutationOf n)) (Some (GraphOf m)) e = let z : ◌≡◌ {A = ℕ} 0 1 = cc in omega arith
    two (Some (RefutationOf n)) (Some (RefutationOf m)) e = let z : ◌≡◌ {A = ℕ} 0 1 = cc in omega arith

-- a graph, a list, and a second piece that is one
graph_head_lem : (s : List ℕ) → HeadOk s → byte_at s 0 ≡ 1 → head_of s ≡ Some (GraphOf (record_count s))
graph_head_lem s h k = sym (head_graph s ((head↔ s).1 h) k (record_count s) refl)

list_head_lem : (s : List ℕ) → HeadOk s → byte_at s 0 ≡ 2 → head_of s ≡ Some (RefutationOf (record_count s))
list_head_lem s h k = sym (head_refutation s ((head↔ s).1 h) (λ z. omega (arith, k, z)) (record_count s) refl)

some_bytes : (t : List ℕ) → byte_at t 0 ≡ 1 → length t ≡ 0 → ⊥
some_bytes [] k e = omega (arith, k)
some_bytes (b ∷ t) k e = omega arith

-- ---- exactly when
module _ (x : List ℕ) (c d : ℕ) (s t : List ℕ) where
  -- a word but REFUSED is told exactly if pieces of their kinds show it and nothing refuses
  shown↔ : (w : Word) → kinds_refusal (kinds_for w) ≡ none → let D = described x in let p = pieces_of s t in
      (claim_answer x c d s t ≡ answer w none)
      ↔ ((shows p ≡ w) × (AcceptedBytes x × (ClaimIn D c d × ((kinds_refusal p ≡ none) × (pieces_tests D c d s t p ≡ none)))))
  unfolding claim_answer
  shown↔ w h = simp (told↔ (shows (pieces_of s t)) w (claim_refused x c d s t) (not_refused w h), refuse↔, accepted_bytes↔, unless↔, reading)
      (λ u. (u.0, (u.1.0, (u.1.1.0.0, u.1.1.1))), λ u. (u.0, (u.1.0, ((u.1.1.0, refl), u.1.1.1))))

  -- so their kinds are those for it, and their tests pass
  told : (w : Word) → kinds_refusal (kinds_for w) ≡ none → claim_answer x c d s t ≡ answer w none
      → AcceptedBytes x × (ClaimIn (described x) c d × ((pieces_of s t ≡ kinds_for w) × (pieces_tests (described x) c d s t (kinds_for w) ≡ none)))
  told w h q = let u = (shown↔ w h).0 q in let k = fitting (pieces_of s t) u.1.1.1.0 ∙ ap kinds_for u.0 in
      (u.1.0, (u.1.1.0, (k, subst (λ p. pieces_tests (described x) c d s t p ≡ none) k u.1.1.1.1)))

  pub holds↔ : (claim_answer x c d s t ≡ answer HOLDS none) ↔ (AcceptedBytes x × (ClaimIn (described x) c d × HoldsOf (described x) c d s t))
  unfolding pieces
  holds↔ = let D = described x in (
    λ q. let u = told HOLDS refl q in let v = (first↔ _ _).0 u.1.1.1 in
        (u.0, (u.1.0, ((list_kept↔ D u.0.accepted (counterexample c d) s).0 v.0, (kept↔ D (subject c) t).0 v.1))),
    λ k. let l = k.1.1.0 in let g = k.1.1.1 in (shown↔ HOLDS refl).1 (
        rw (list_head_lem s l.head l.is_a_list, ne_eqb (length t) 0 (some_bytes t g.is_graph), graph_head_lem t g.head g.is_graph)
        (refl, (k.0, (k.1.0, (refl, (first↔ _ _).1 ((list_kept↔ D k.0.accepted (counterexample c d) s).1 l, (kept↔ D (subject c) t).1 g)))))),
  )

  pub fails↔ : (claim_answer x c d s t ≡ answer FAILS none) ↔ (AcceptedBytes x × (ClaimIn (described x) c d × FailsOf (described x) c d s t))
  unfolding pieces
  fails↔ = let D = described x in (
    λ q. let u = told FAILS refl q in
        (u.0, (u.1.0, ((kept↔ D (counterexample c d) s).0 u.1.1.1, none_second (head_of s) t (ap single u.1.1.0)))),
    λ k. let g = k.1.1.0 in (shown↔ FAILS refl).1 (rw (graph_head_lem s g.head g.is_graph, k.1.1.1)
        (refl, (k.0, (k.1.0, (refl, (kept↔ D (counterexample c d) s).1 g))))),
  )

  pub nothing↔ : (claim_answer x c d s t ≡ answer HOLDS_OF_NOTHING none)
      ↔ (AcceptedBytes x × (ClaimIn (described x) c d × NothingOf (described x) c d s t))
  unfolding pieces
  nothing↔ = let D = described x in (
    λ q. let u = told HOLDS_OF_NOTHING refl q in
        (u.0, (u.1.0, ((list_kept↔ D u.0.accepted (subject c) s).0 u.1.1.1, none_second (head_of s) t (ap single u.1.1.0)))),
    λ k. let l = k.1.1.0 in (shown↔ HOLDS_OF_NOTHING refl).1 (rw (list_head_lem s l.head l.is_a_list, k.1.1.1)
        (refl, (k.0, (k.1.0, (refl, (list_kept↔ D k.0.accepted (subject c) s).1 l))))),
  )

  -- so for the case that the code answers
  module _ (v : Result Judgement Refusals.Refusal) (q : of_judgement v ≡ claim_answer x c d s t) where
    pub holds_when : (v ≡ Ok Holds) ↔ (AcceptedBytes x × (ClaimIn (described x) c d × HoldsOf (described x) c d s t))
    holds_when = case_when (of_judgement v) (claim_answer x c d s t) (answer HOLDS none) q (judgement↔ v (Ok Holds)) holds↔

    pub fails_when : (v ≡ Ok Fails) ↔ (AcceptedBytes x × (ClaimIn (described x) c d × FailsOf (described x) c d s t))
    fails_when = case_when (of_judgement v) (claim_answer x c d s t) (answer FAILS none) q (judgement↔ v (Ok Fails)) fails↔

    pub nothing_when : (v ≡ Ok HoldsOfNothing) ↔ (AcceptedBytes x × (ClaimIn (described x) c d × NothingOf (described x) c d s t))
    nothing_when = case_when (of_judgement v) (claim_answer x c d s t) (answer HOLDS_OF_NOTHING none) q (judgement↔ v (Ok HoldsOfNothing)) nothing↔

  -- ---- and true
  -- after HOLDS no finite model of any size has an element with C and not D, and the line of the graph is one that has C
  pub holds_true : claim_answer x c d s t ≡ answer HOLDS none → let D = described x in
      ((I : Interpretation) → Model D I → Satisfies D (counterexample c d) I → ⊥)
      × (Model D (line D (graph_of x t)) × Satisfies D (subject c) (line D (graph_of x t)))
  holds_true q = let k = holds↔.0 q in let D = described x in (
    refutation_sound D k.0.accepted (counterexample c d) (refutation_of x s) k.1.1.0.closes,
    graph_sound D k.0.accepted (subject c) (graph_of x t) k.1.1.1.keeps,
  )

  -- after FAILS the line of the graph has an element with C and not D
  pub fails_true : claim_answer x c d s t ≡ answer FAILS none
      → let D = described x in Model D (line D (graph_of x s)) × Satisfies D (counterexample c d) (line D (graph_of x s))
  fails_true q = let k = fails↔.0 q in graph_sound (described x) k.0.accepted (counterexample c d) (graph_of x s) k.1.1.0.keeps

  -- after HOLDS OF NOTHING no finite model of any size has C
  pub nothing_true : claim_answer x c d s t ≡ answer HOLDS_OF_NOTHING none
      → (I : Interpretation) → Model (described x) I → Satisfies (described x) (subject c) I → ⊥
  nothing_true q = let k = nothing↔.0 q in refutation_sound (described x) k.0.accepted (subject c) (refutation_of x s) k.1.1.0.closes

-- ---- exactly one of the three
-- lifted evidence for each answer
abbrev pub HoldsLifted : Description → ℕ → ℕ → Type 0
HoldsLifted D c d = ((C : Refutation) × Closes D (counterexample c d) C) × ((G : Graph) × Keeps D (subject c) G)

abbrev pub FailsLifted : Description → ℕ → ℕ → Type 0
FailsLifted D c d = (G : Graph) × Keeps D (counterexample c d) G

abbrev pub NothingLifted : Description → ℕ → ℕ → Type 0
NothingLifted D c d = (C : Refutation) × Closes D (subject c) C
