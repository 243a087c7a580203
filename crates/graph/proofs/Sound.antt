-- A graph that keeps the rules stands for a model: its line is one, and element 0 has what is wanted.
use Rattle.std.specs.Prelude.{ℕ, zero, suc, ◌*◌, ◌/◌, ◌%◌, ◌≤◌, ◌<◌, ◌≡◌, refl, ◌↔◌, ◌⊎◌, Bool, ◌&&◌, List, eqb, length}
use Rattle.std.proofs.Common.{sym, ◌∙◌, arith, div-lt_iff_lt-mul, mul-le-mul}
use Rattle.std.proofs.Math.Path.{subst}
use Rattle.std.proofs.Math.Logic.{inl, inr}
use Rattle.std.proofs.Math.Nat.{div-eq_of_lt}
use Rattle.logic.specs.Tests.{So, or_l, or_r, or_cases, and↔}
use Rattle.logic.specs.Bounded.{below}
use Rattle.logic.specs.Lists.{◌∈◌}
use Rattle.logic.specs.Sums.{count_below, count_le, count_pos}
use Rattle.logic.specs.Closure.{closure, closure_base, closure_ind, closure_trans}
use Rattle.description.specs.Literals.{Literal, pos, neg, opposite, entry_of, Label, entry_of_opposite}
use Rattle.description.specs.Descriptions.{Entry, top, name, both, every, at_least, Description, Compatible}
use Rattle.description.specs.Roles.{ancestor, simple, anc_refl, parent_anc}
use Rattle.description.proofs.Roles.{anc_in, anc_trans}
use Rattle.description.specs.Acceptance.{Accepted, fields_at_lem}
use Rattle.interpretation.specs.Meaning.{Interpretation, meaning, truth, truth_eq, holds}
use Rattle.interpretation.specs.Models.{Model, Satisfies, both_true, every_true, least_true}
use Rattle.interpretation.proofs.Models.{opposite_true}
use Rattle.graph.specs.Graphs.{Edge, Graph, label_at, edges_at, of_role, total, counted, EdgeOk, Passes, NodeOk, wanted_at, Keeps}
use Rattle.graph.specs.Line.{copies, direct, pairs, line_with, line}
use Rattle.graph.proofs.Copies.{owner, count_direct, total_at, copies_pos, room}

-- ---- the line with K copies of each node, for any K that is enough for the edges between any two
module _ (D : Description) (A : Accepted D) (W : List Literal) (G : Graph) (g : Keeps D W G) (K : ℕ) (some-copy : 1 ≤ K)
    (fits : (x y : ℕ) → x < length G → y < length G → total (edges_at G x) (λ E. eqb E.target y) ≤ K) where
  abbrev I : Interpretation
  I = line_with D G K

  abbrev size : ℕ
  size = length G * K

  -- the pairs that edges make, before closing
  abbrev link : ℕ → ℕ → ℕ → Bool
  link = direct G K

  -- the label of the node that z copies
  abbrev lab : ℕ → Label
  lab z = label_at G (z / K)

  node_in_lem : (z : ℕ) → z < size → z / K < length G
  node_in_lem z h = (div-lt_iff_lt-mul some-copy).1 h

  ok : (z : ℕ) → z < size → NodeOk D (length G) (label_at G) (wanted_at W (z / K)) (lab z) (edges_at G (z / K))
  ok z h = g.nodes (z / K) (node_in_lem z h)

  -- ---- roles
  role↔ : (r z w : ℕ) → So (I.role r z w)
      ↔ (So (link r z w) ⊎ ((t : ℕ) × (t < D.roles) × (So (D.transitive t) × (So (ancestor D t r) × So (closure size (link t) z w)))))
  unfolding pairs
  role↔ r z w = (
    λ e. elim (or_cases (link r z w) _ e) [ inl u ↦ inl u | inr u ↦ inr (simp below at u) ],
    λ h. elim h [ inl u ↦ or_l (link r z w) _ u | inr v ↦ or_r (link r z w) _ (simp below v) ],
  )

  link_role : (r z w : ℕ) → So (link r z w) → So (I.role r z w)
  link_role r z w e = (role↔ r z w).1 (inl e)

  -- a pair comes from one edge, whose roles it has, and whose target w copies: what holds of each r edge and its target's label holds there
  link_edge : (r z w : ℕ) (P : Edge → Label → Type 0) → ((E : Edge) → E ∈ edges_at G (z / K) → So (of_role r E) → P E (label_at G E.target))
      → So (link r z w) → (E : Edge) × ((s : ℕ) → link s z w ≡ of_role s E) × P E (lab w)
  unfolding direct
  link_edge r z w P each k = let v = owner (edges_at G (z / K)) (w / K) (w % K) r k in
      (v.0, v.3, subst (λ y. P v.0 (label_at G y)) v.2 (each v.0 v.1 (sym (v.3 r) ∙ k)))

  -- masks hold ancestors
  link_up : (r s z w : ℕ) → z < size → So (ancestor D r s) → So (link r z w) → So (link s z w)
  link_up r s z w hz a k = let v = link_edge r z w (λ E M. So (of_role s E)) up k in v.1 s ∙ v.2
    where
      up : (E : Edge) → E ∈ edges_at G (z / K) → So (of_role r E) → So (of_role s E)
      up E m u = let o = (ok z hz).edges_ok E m in let hr = o.roles_inside r u in o.roles_up r hr u s (anc_in D A.parents_in r s hr a) a

  -- closing adds nothing to a simple role
  simple_link : (s z w : ℕ) → So (simple D s) → So (I.role s z w) → So (link s z w)
  unfolding simple
  simple_link s z w h e = elim ((role↔ s z w).0 e) [ inl p ↦ p | inr v ↦ absurd ((simp below at h) v.0 v.1 (v.2.0, v.2.1.0)) ]

  -- so two disjoint roles, which are simple, have no pair in common: the edge that a pair comes from would hold both
  role_compatible : (z w : ℕ) → z < size → Compatible D (λ r. I.role r z w)
  role_compatible z w hz i h p q = let o = (A.disjoints_ok i h).1.1 in
      let v = link_edge (D.disjoint i).one z w (λ E M. EdgeOk D (length G) E) (λ E m u. (ok z hz).edges_ok E m) (simple_link (D.disjoint i).one z w o.0 p) in
      v.2.roles_compatible i h (sym (v.1 (D.disjoint i).one) ∙ simple_link (D.disjoint i).one z w o.0 p)
      (sym (v.1 (D.disjoint i).other) ∙ simple_link (D.disjoint i).other z w o.1 q)

  count_link : (z r : ℕ) (l : Literal) → z < size → count_below size (λ w. link r z w && lab w l) ≡ counted (label_at G) (edges_at G (z / K)) r l
  unfolding direct
  count_link z r l h = count_direct (length G) K (edges_at G (z / K)) r (λ y. label_at G y l) some-copy (λ E m. ((ok z h).edges_ok E m).target_in)
      (λ y k. fits (z / K) y (node_in_lem z h) k)

  -- a role's pairs go to its ancestors
  role_above : (r s z w : ℕ) → r < D.roles → z < size → So (ancestor D r s) → So (I.role r z w) → So (I.role s z w)
  role_above r s z w hr hz a e = (role↔ s z w).1 (elim ((role↔ r z w).0 e) [
    | inl u ↦ inl (link_up r s z w hz a u)
    | inr v ↦ inr (v.0, v.1, (v.2.0, (anc_trans D A.parents_in v.0 r s v.1 v.2.1.0 a, v.2.1.1)))
  ])

  -- pairs that came up from a closed role are pairs of the role's own closure, as masks hold ancestors
  role_closure : (r z w : ℕ) → z < size → So (I.role r z w) → So (closure size (link r) z w)
  role_closure r z w hz e = elim ((role↔ r z w).0 e) [
    | inl u ↦ closure_base size (link r) z w u
    | inr v ↦ closure_ind size (link v.0) size (omega arith) (λ x y. x < size → So (closure size (link r) x y))
        (λ x y p hx. closure_base size (link r) x y (link_up v.0 r x y hx v.2.1.0 p))
        (λ x y u hy p q hx. closure_trans size (link r) x y u hy (p hx) (q hy)) z w v.2.1.1 hz
  ]

  role_trans : (t x y z : ℕ) → t < D.roles → So (D.transitive t) → x < size → y < size → So (I.role t x y) → So (I.role t y z) → So (I.role t x z)
  role_trans t x y z ht c hx hy p q =
      let k = closure_trans size (link t) x y z hy (role_closure t x y hx p) (role_closure t y z hy q) in (role↔ t x z).1 (inr (t, ht, (c, (anc_refl D t, k))))

  -- ---- "every"
  -- what rule 14 says of a pair
  passed : (e r : ℕ) (l : Literal) → e < D.entries → D.entry e ≡ every r l → (z w : ℕ) → z < size → So (lab z (pos e)) → So (link r z w)
      → So (lab w l) × ((t : ℕ) → t < D.roles → So (D.transitive t) → So (link t z w) → So (ancestor D t r)
      → (f : ℕ) → f < D.entries → every t l ≡ D.entry f → So (lab w (pos f)))
  passed e r l he q z w hz p k = let v = link_edge r z w (Passes D r l) (((ok z hz).every_ok e he r l q).0 p) k in
      (v.2.0, λ t ht c u. v.2.1 t ht c (sym (v.1 t) ∙ u))

  -- any "every S l" at z, where T has ancestor S, brings l to w, and "every T l", which is entry f
  abbrev Carries : ℕ → ℕ → Literal → ℕ → ℕ → Type 0
  Carries t f l z w = (e s : ℕ) → e < D.entries → D.entry e ≡ every s l → So (ancestor D t s) → z < size → So (lab z (pos e))
      → So (lab w l) × So (lab w (pos f))

  -- the closure of a transitive role carries, since each label on the way has "every T l"
  along : (t f : ℕ) (l : Literal) → t < D.roles → So (D.transitive t) → f < D.entries → every t l ≡ D.entry f
      → (z w : ℕ) → So (closure size (link t) z w) → Carries t f l z w
  along t f l ht c hf qf = closure_ind size (link t) size (omega arith) (Carries t f l)
      (λ z w k e s he q a hz p. let o = passed e s l he q z w hz p (link_up t s z w hz a k) in (o.0, o.1 t ht c k a f hf qf))
      (λ z u w hu first then e s he q a hz p. then f t hf (sym qf) (anc_refl D t) hu (first e s he q a hz p).1)

  every_role : (e r : ℕ) (l : Literal) → e < D.entries → D.entry e ≡ every r l → (z w : ℕ) → z < size → So (lab z (pos e)) → So (I.role r z w) → So (lab w l)
  every_role e r l he q z w hz p k = elim ((role↔ r z w).0 k) [
    | inl u ↦ (passed e r l he q z w hz p u).0
    | inr v ↦ let f = A.everys_below e he r l q v.0 v.1 v.2.0 v.2.1.0 in
        (along v.0 f.0 l v.1 v.2.0 f.1 f.2 z w v.2.1.1 e r he q v.2.1.0 hz p).0
  ]

  -- ---- every literal of a label is true, by induction on its entry
  abbrev True : Literal → Type 0
  True l = (z : ℕ) → z < size → So (lab z l) → So (holds D I l z)

  module _ (e : ℕ) (he : e < D.entries) (ih : (l : Literal) → entry_of l < e → True l) (z : ℕ) (hz : z < size) where
    opposed : (l : Literal) → entry_of l < e → (w : ℕ) → w < size → So (lab w (opposite l)) → So (holds D I l w) → ⊥
    opposed l h w hw u = (opposite_true D I l w).0 (ih (opposite l) (rw (entry_of_opposite l) h) w hw u)

    entry_true : (k : Entry) → D.entry e ≡ k → (So (lab z (pos e)) → So (truth D I e z)) × (So (lab z (neg e)) → So (truth D I e z) → ⊥)
    unfolding meaning
    entry_true top q = let o = (ok z hz).label_ok in (
      λ p. truth_eq D A I e z top he q,
      λ p t. o.consistent 0 A.some_entry o.has_top (rw (fields_at_lem D A e top he q) at p),
    )
    entry_true name q = (λ p. same ∙ p, λ p t. (ok z hz).label_ok.consistent e he (sym same ∙ t) p)
      where
        same : truth D I e z ≡ lab z (pos e)
        same = truth_eq D A I e z name he q ∙ (cc)
    entry_true (both a b) q =
        let h = fields_at_lem D A e (both a b) he q in let o = (ok z hz).both_ok e he a b q in let m = both_true D A I e z a b he q in (
          λ p. m.1 (ih a h.0 z hz (o.0 p).0, ih b h.1 z hz (o.0 p).1),
          λ p t. elim (o.1 p) [ inl u ↦ opposed a h.0 z hz u (m.0 t).0 | inr u ↦ opposed b h.1 z hz u (m.0 t).1 ],
        )
    entry_true (every r l) q =
        let h = (fields_at_lem D A e (every r l) he q).1 in let m = every_true D A I e z r l he q in (
          λ p. m.1 (λ w hw k. ih l h w hw (every_role e r l he q z w hz p k)),
          λ p t. let w = filler p in opposed l h w.0 w.1 w.2.1 (m.0 t w.0 w.1 (link_role r z w.0 w.2.0)),
        )
      where
        -- a copy that the edge of rule 14 takes
        filler : So (lab z (neg e)) → (w : ℕ) × (w < size) × (So (link r z w) × So (lab w (opposite l)))
        filler p = let E = ((ok z hz).every_ok e he r l q).1 p in
            let n = total_at (edges_at G (z / K)) (λ F. of_role r F && label_at G F.target (opposite l)) E.0 E.1 ((and↔ _ _).1 E.2) in
            simp and↔ at (count_pos size (λ w. link r z w && lab w (opposite l))
            (omega (arith, n, ((ok z hz).edges_ok E.0 E.1).some_copy, count_link z r (opposite l) hz)))
    entry_true (at_least r l n) q =
        let o = (ok z hz).count_ok e he r l n q in let m = least_true D A I e z r l n he q in (
          λ p. m.1 (omega (arith, o.0 p, count_link z r l hz, at_least_lem)),
          λ p t. omega (arith, (o.1 p).0, m.0 t, count_link z r l hz, at_most (o.1 p).1),
        )
      where
        h : entry_of l < e
        h = (fields_at_lem D A e (at_least r l n) he q).0.1

        linked : ℕ → Bool
        linked w = link r z w && lab w l

        filling : ℕ → Bool
        filling w = I.role r z w && holds D I l w

        at_least_lem : count_below size linked ≤ count_below size filling
        at_least_lem = count_le size linked filling (λ w hw. simp and↔ (λ u. (link_role r z w u.0, ih l h w hw u.1)))

        -- the role is simple, and each target decides l
        at_most : ((E : Edge) → E ∈ edges_at G (z / K) → So (of_role r E) → So (label_at G E.target l) ⊎ So (label_at G E.target (opposite l)))
            → count_below size filling ≤ count_below size linked
        at_most decided = count_le size filling linked (λ w hw. simp and↔ (λ u. let k = simple_link r z w (A.simples e he r l n q) u.0 in
            (k, elim (link_edge r z w (λ E M. So (M l) ⊎ So (M (opposite l))) decided k).2 [ inl a ↦ a | inr a ↦ absurd (opposed l h w hw a u.1) ])))

  literal_true : (l : Literal) → ((m : Literal) → entry_of m < entry_of l → True m) → True l
  literal_true (pos e) ih z hz p = (entry_true e ((ok z hz).label_ok.inside_table (pos e) p) ih z hz (D.entry e) refl).0 p
  literal_true (neg e) ih z hz p = (opposite_true D I (pos e) z).1 ((entry_true e ((ok z hz).label_ok.inside_table (neg e) p) ih z hz (D.entry e) refl).1 p)

  true_below : (n : ℕ) (l : Literal) → entry_of l < n → True l
  true_below zero l h = absurd (omega arith)
  true_below (suc n) l h = literal_true l (λ m k. true_below n m (omega arith))

  true_with : (l : Literal) → True l
  true_with l = true_below (suc (entry_of l)) l (omega arith)

  some_element : 1 ≤ size
  some_element = omega (arith, mul-le-mul g.some_node some-copy)

  model_with : Model D I
  model_with = record {
    nonempty = some_element;
    inclusion = λ r hr s hs p x hx y hy q. role_above r s x y hr hx (parent_anc D r s p) q;
    transitivity = λ t ht c x hx y hy p z hz q. role_trans t x y z ht c hx hy p q;
    disjointness = λ x hx y hy. role_compatible x y hx;
    rules = λ i hi x hx. true_with (D.rule i) x hx ((ok x hx).label_ok.has_rules i hi);
  }

  -- element 0 is a copy of node 0
  wanted_with : (l : Literal) → l ∈ W → So (holds D I l 0)
  wanted_with l m = true_with l 0 some_element (rw first ((g.nodes 0 g.some_node).label_ok.has_wanted l m))
    where
      first : 0 / K ≡ 0
      first = div-eq_of_lt some-copy

-- ---- the line
module _ (D : Description) (A : Accepted D) (W : List Literal) (G : Graph) (g : Keeps D W G) where
  -- every literal of a node's label is true at each of its copies
  pub label_true : (l : Literal) (z : ℕ) → z < (line D G).size → So (label_at G (z / copies G) l) → So (holds D (line D G) l z)
  label_true = true_with D A W G g (copies G) (copies_pos G) (room G)

  pub line_model : Model D (line D G)
  line_model = model_with D A W G g (copies G) (copies_pos G) (room G)

  -- all that is wanted is true at element 0
  pub first_wanted : (l : Literal) → l ∈ W → So (holds D (line D G) l 0)
  first_wanted = wanted_with D A W G g (copies G) (copies_pos G) (room G)

  pub line_satisfies : Satisfies D W (line D G)
  line_satisfies = (0, line_model.nonempty, first_wanted)

-- the line of a graph that keeps the rules is a model with all that is wanted
pub graph_sound : (D : Description) → Accepted D → (W : List Literal) (G : Graph) → Keeps D W G → Model D (line D G) × Satisfies D W (line D G)
graph_sound D A W G g = (line_model D A W G g, line_satisfies D A W G g)
