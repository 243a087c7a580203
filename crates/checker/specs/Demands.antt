-- The owner's demands over lifted evidence (no bytes; limits as a parameter), with the root alone wanted. docs/THEOREMS.md is the map.
use Rattle.std.specs.Prelude.{ℕ, ◌^◌, ◌≤◌, ◌<◌, ◌≡◌, ◌↔◌, ◌⊎◌, Bool, List, [], ◌∷◌, length}
use mathlib.Core.List.Memᴰ
use Rattle.std.proofs.Common.{inl, inr, sym, subst}
use Rattle.std.proofs.Math.Option.{none}
use Rattle.logic.specs.Lists.{◌∈◌}
use Rattle.counting.specs.Rows.{Solves, Fillers}
use Rattle.counting.proofs.Solutions.{fillers}
use Rattle.description.specs.Literals.{Literal, entry_of}
use Rattle.description.specs.Descriptions.{Description, wanted}
use Rattle.description.specs.Acceptance.{description_refusal, Accepted}
use Rattle.description.proofs.Acceptance.{accepted↔}
use Rattle.interpretation.specs.Meaning.{Interpretation}
use Rattle.interpretation.specs.Models.{Model, Satisfies}
use Rattle.graph.specs.Graphs.{Graph, GraphLimits, GraphFits, Keeps}
use Rattle.graph.specs.GraphTests.{any_graph, graph_refusal}
use Rattle.graph.proofs.GraphTests.{graph↔}
use Rattle.graph.proofs.LiftedGraph.{lifted_graph↔}
use Rattle.graph.specs.Line.{line}
use Rattle.graph.proofs.Sound.{graph_sound}
use Rattle.refutation.specs.Cells.{bounds, rows_of}
use Rattle.refutation.specs.Records.{Refutation, RefutationLimits, RefutationFits, Closes, open_at, Counting}
use Rattle.refutation.specs.RecordTests.{any_refutation, refutation_refusal}
use Rattle.refutation.proofs.RecordTests.{refutation↔}
use Rattle.refutation.proofs.LiftedRefutation.{lifted_refutation↔}
use Rattle.refutation.proofs.Sound.{refutation_sound}
use Rattle.completeness.specs.Dichotomy.{exactly_one, small_graph}

wanted_in : (D : Description) → Accepted D → (l : Literal) → l ∈ wanted D → entry_of l < D.entries
wanted_in D A l m = elim (Memᴰ.cases_cons m) [ inl e ↦ subst (λ k. entry_of k < D.entries) (sym e) A.root_in | inr t ↦ elim t [ ] ]

-- demand 2, the counting sentence, for the rows and open cells of a counting step (counting's `fillers` has it for any rows and cells)
pub counting_fillers : (D : Description) (K : Counting)
    → ((x : ℕ → ℕ) × Solves (bounds (rows_of D K.rows)) (open_at K.cells) x) ↔ Fillers (bounds (rows_of D K.rows)) (open_at K.cells)
counting_fillers D K = fillers (bounds (rows_of D K.rows)) (open_at K.cells)

-- demand 2, "exactly when", of descriptions: with a role and an entry, refused by none of 3 to 8 and 26 exactly if accepted
pub accepted_when : (D : Description) → ((1 ≤ D.roles) × ((1 ≤ D.entries) × (description_refusal D ≡ none))) ↔ Accepted D
accepted_when = accepted↔

module _ (D : Description) (A : Accepted D) where
  -- of evidence, for any limits: refused by none of 10 to 20 exactly if it keeps the rules within the limits
  pub inhabited_when : (lim : GraphLimits) (G : Graph)
      → ((1 ≤ length G) × (graph_refusal lim D (wanted D) G ≡ none)) ↔ (Keeps D (wanted D) G × GraphFits lim G)
  inhabited_when lim G = graph↔ lim D (wanted D) G

  pub empty_when : (lim : RefutationLimits) (C : Refutation)
      → ((1 ≤ length C) × (refutation_refusal lim D (wanted D) C ≡ none)) ↔ (Closes D (wanted D) C × RefutationFits lim C)
  empty_when lim C = refutation↔ lim D A (wanted D) C

  -- and of lifted evidence, which has none: exactly if it keeps the rules
  pub graph_keeps : (G : Graph) → ((1 ≤ length G) × (graph_refusal any_graph D (wanted D) G ≡ none)) ↔ Keeps D (wanted D) G
  graph_keeps G = lifted_graph↔ D (wanted D) G

  pub refutation_keeps : (C : Refutation) → ((1 ≤ length C) × (refutation_refusal any_refutation D (wanted D) C ≡ none)) ↔ Closes D (wanted D) C
  refutation_keeps C = lifted_refutation↔ D A (wanted D) C

  -- demand 2, "true": after INHABITED the line of the graph is a finite model with the class
  pub inhabited_true : (G : Graph) → Keeps D (wanted D) G → Model D (line D G) × Satisfies D (wanted D) (line D G)
  inhabited_true G g = graph_sound D A (wanted D) G g

  -- and after EMPTY no finite model of any size has it
  pub empty_true : (C : Refutation) → Closes D (wanted D) C → (I : Interpretation) → Model D I → Satisfies D (wanted D) I → ⊥
  empty_true C c I M s = refutation_sound D A (wanted D) C c I M s

  -- demand 3: exactly one of two exists, a graph (then one with at most 2^entries nodes) or a refutation
  pub one_of_two : (((G : Graph) × Keeps D (wanted D) G × (length G ≤ 2 ^ D.entries)) ⊎ ((C : Refutation) × Closes D (wanted D) C))
      × (((G : Graph) × Keeps D (wanted D) G) → ((C : Refutation) × Closes D (wanted D) C) → ⊥)
  one_of_two = exactly_one D A (wanted D) (wanted_in D A)

  -- and if any graph keeps the rules, so does one of at most 2^entries nodes
  pub few_nodes : (G : Graph) → Keeps D (wanted D) G → (H : Graph) × Keeps D (wanted D) H × (length H ≤ 2 ^ D.entries)
  few_nodes G g = small_graph D A (wanted D) (wanted_in D A) G g
