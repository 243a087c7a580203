-- The test of an edge as the code makes it is the test of the edge.
use Prim.Native.Nat.{ℕ, ◌+◌, ◌*◌, ◌/◌, ◌≤◌, ◌<◌}
use Rattle.std.specs.Prelude.{◌≡◌, ◌&&◌, List, ltb, length, get_or}
use Rattle.std.proofs.Common.{◌∙◌, arith}
use Rattle.std.proofs.Math.Path.{ap, ap₂}
use Rattle.std.proofs.Math.Option.{Option}
use Rattle.std.proofs.Math.Dec.{leb}
use Rattle.logic.specs.Tests.{So, ◌⇒◌, same_test, imp_in, imp_out}
use Rattle.logic.specs.Bounded.{all_below, all_cong, all_intro, all_elim}
use Rattle.logic.specs.Lists.{each, each_tabulate}
use Rattle.logic.specs.Sets.{has, nonempty, narrow, within}
use Rattle.logic.specs.SetLaws.{within↔, set_of↔}
use Rattle.parts.specs.Numbers.{byte_at, num2, up_to_all}
use Rattle.description.specs.Descriptions.{Description, compatible}
use Rattle.description.specs.Roles.{ancestor}
use Rattle.tables.specs.Tables.{describe}
use Rattle.roles.specs.Ancestors.{AncestorsOf, ancestor_masks}
use Rattle.roles.specs.Disjoint.{compatible_by}
use Rattle.graph.specs.GraphTests.{stored_graph, edge_test}
use Rattle.evidence.specs.Evidence.{most_edges, edge_in, edges_in}
use Rattle.edges.specs.EdgeSteps.{edge_struct, edge_code, edges_code}

-- ---- it is the test of the edge
module _ (rs cs qs : List ℕ) (p : Option (List ℕ)) (a : List ℕ) (anc : AncestorsOf rs a) (few : length rs / 3 ≤ 16)
    (records : (m : ℕ) → compatible_by a m ≡ compatible (describe rs cs qs p) (has m)) where
  abbrev D : Description
  D = describe rs cs qs p

  upward_is : ((r s : ℕ) → r < D.roles → So (ancestor D r s) → s < D.roles) → (m r : ℕ) → r < length rs / 3
      → within (get_or a r 0) m ≡ all_below (length rs / 3) (λ s. ancestor D r s ⇒ has m s)
  upward_is inside m r h = ap (λ x. within x m) (ancestor_masks rs cs qs p a anc few r (omega arith)) ∙ same_test _ _
      (λ u. all_intro (length rs / 3) _ (λ s l. imp_in _ _ (λ v. (within↔ _ m).0 u s ((set_of↔ 16 (ancestor D r) s).1 (omega arith, v)))))
      (λ u. (within↔ _ m).1 (λ s v. let w = (set_of↔ 16 (ancestor D r) s).0 v in imp_out _ _ (all_elim (length rs / 3) _ u s (inside r s h w.1)) w.1))

  pub edge_is : ((r s : ℕ) → r < D.roles → So (ancestor D r s) → s < D.roles) → (size : ℕ) (es : List ℕ) (j : ℕ)
      → edge_code a (length rs / 3) size (edge_struct es j) ≡ edge_test stored_graph D size (edge_in es j)
  unfolding edge_test
  edge_is inside size es j =
      ap₂ (λ b f. (ltb (byte_at es (5 * j)) size && (nonempty m && (narrow m (length rs / 3) && (b && (f && leb 1 c))))) && leb c 1000)
      (all_cong (length rs / 3) _ _ (λ r h. ap (λ b. has m r ⇒ b) (upward_is inside m r h))) (records m)
    where
      m : ℕ
      m = num2 es (5 * j + 1)

      c : ℕ
      c = num2 es (5 * j + 3)

  pub edges_are : ((r s : ℕ) → r < D.roles → So (ancestor D r s) → s < D.roles) → (size : ℕ) (es : List ℕ) → length es / 5 ≤ most_edges
      → edges_code a (length rs / 3) size es ≡ each (edges_in es) (edge_test stored_graph D size)
  edges_are inside size es short =
      ap (λ k. all_below k (λ j. edge_code a (length rs / 3) size (edge_struct es j))) (up_to_all most_edges (length es / 5) short)
      ∙ all_cong (length es / 5) _ _ (λ j _. edge_is inside size es j)
      ∙ each_tabulate (length es / 5) (edge_in es) (edge_test stored_graph D size)
