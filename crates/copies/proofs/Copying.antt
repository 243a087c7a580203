-- K and the copies that the code finds are the graph's.
use Prim.Native.Nat.{ℕ, zero, suc, ◌+◌, ◌-◌, ◌/◌, ◌≤◌, ◌<◌, max}
use Rattle.std.specs.Prelude.{◌≡◌, Bool, List, eqb, ltb, length, drop}
use Rattle.std.proofs.Math.Path.{refl, ap}
use Rattle.std.proofs.Common.{sym, ◌∙◌, ap₂, add-zero}
use Rattle.std.proofs.Math.Bool.{true, false, cond}
use native.Mathlib.Omega.{arith}
use Rattle.logic.specs.Lists.{tabulate, length_tabulate, at_tabulate}
use Rattle.logic.specs.Sums.{sum_below, only, max_below, sum_front}
use Rattle.logic.specs.Sets.{has}
use Rattle.logic.specs.SetLaws.{has_none}
use Rattle.parts.specs.Numbers.{up_to_all}
use Rattle.graph.specs.Graphs.{Edge, Node, edges_at, total}
use Rattle.graph.specs.Line.{copies, joins}
use Rattle.evidence.specs.Evidence.{label_size, record_count, record_at, edge_in, edges_in, edges_part, node_in, graph_in, most_edges}
use Rattle.evidence.specs.declared.Layout.{Layout}
use Rattle.copies.specs.Copying.{total_to, copies_in, owner_from, owner_mask}

-- ---- they are the graph's
total_tabulate : (k : ℕ) (f : ℕ → Edge) (p : Edge → Bool) → sum_below k (λ i. only (p (f i)) (f i).count) ≡ total (tabulate k f) p
unfolding sum_below total tabulate
total_tabulate zero f p = refl
total_tabulate (suc k) f p = sum_front k (λ i. only (p (f i)) (f i).count) ∙ ap (λ n. only (p (f 0)) (f 0).count + n) (total_tabulate k (λ i. f (suc i)) p)

pub total_to_is : (es : List ℕ) (y : ℕ) → length es / 5 ≤ most_edges → total_to es y ≡ total (edges_in es) (λ E. eqb E.target y)
unfolding total_to
total_to_is es y short = rw (up_to_all most_edges (length es / 5) short) (total_tabulate (length es / 5) (edge_in es) (λ E. eqb E.target y))

-- membership goes into a choice
has_choice : (b d : Bool) (m n o r : ℕ) (p q : Bool) → has n r ≡ p → has o r ≡ q → has (cond b (cond d m n) o) r ≡ cond b (cond d (has m r) p) q
has_choice true true m n o r p q e g = refl
has_choice true false m n o r p q e g = e
has_choice false d m n o r p q e g = g

owner_tabulate : (es : List ℕ) (y r k i j : ℕ) (f : ℕ → Edge) → ((n : ℕ) → f n ≡ edge_in es (i + n)) → has (owner_from es y k i j) r ≡ joins (tabulate k f) y j r
unfolding owner_from joins tabulate
owner_tabulate es y r zero i j f h = has_none r
owner_tabulate es y r (suc k) i j f h = rw first (has_choice (eqb (edge_in es i).target y) (ltb j (edge_in es i).count) _ _ _ r _ _
    (owner_tabulate es y r k (i + 1) (j - (edge_in es i).count) (λ n. f (suc n)) later) (owner_tabulate es y r k (i + 1) j (λ n. f (suc n)) later))
  where
    first : f 0 ≡ edge_in es i
    first = h 0 ∙ ap (edge_in es) (add-zero i)

    later : (n : ℕ) → f (suc n) ≡ edge_in es (i + 1 + n)
    later n = h (suc n) ∙ ap (edge_in es) (let z : i + suc n ≡ i + 1 + n = omega arith in z)

pub owner_is : (es : List ℕ) (y j : ℕ) → length es / 5 ≤ most_edges → (r : ℕ) → has (owner_mask es y j) r ≡ joins (edges_in es) y j r
unfolding owner_mask
owner_is es y j short r = rw (up_to_all most_edges (length es / 5) short) (owner_tabulate es y r (length es / 5) 0 j (edge_in es) (λ n. ap (edge_in es) (let z : n ≡ 0 + n = omega arith in z)))

max_cong : (n : ℕ) (f g : ℕ → ℕ) → ((i : ℕ) → i < n → f i ≡ g i) → max_below n f ≡ max_below n g
unfolding max_below
max_cong zero f g h = refl
max_cong (suc n) f g h = ap₂ max (max_cong n f g (λ i k. h i (omega arith))) (h n (omega arith))

pub copies_are : (f : Layout) (s : List ℕ)
    → ((x : ℕ) → x < record_count s → (edges_part f s x ≡ drop (label_size f) (record_at s x)) × (length (drop (label_size f) (record_at s x)) / 5 ≤ most_edges))
    → copies_in f s (record_count s) ≡ copies (graph_in f s)
unfolding copies_in copies
copies_are f s whole = rw (length_tabulate (record_count s) (λ i. node_in f (record_at s i))) (ap (max 1) (max_cong (record_count s) _ _ (λ x h. max_cong (record_count s) _ _ (λ y _. at x h y))))
  where
    at : (x : ℕ) → x < record_count s → (y : ℕ) → total_to (edges_part f s x) y ≡ total (edges_at (graph_in f s) x) (λ E. eqb E.target y)
    at x h y = let w = whole x h in ap (λ es. total_to es y) w.0 ∙ total_to_is (drop (label_size f) (record_at s x)) y w.1
        ∙ ap (λ (N : Node). total N.edges (λ E. eqb E.target y)) (sym (at_tabulate (record_count s) (λ i. node_in f (record_at s i)) _ x h))
