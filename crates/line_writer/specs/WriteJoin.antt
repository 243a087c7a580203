-- Direct pairs, closed on masks and handed to the ancestors, are the pairs of the line of the graph (01, "The written line").
use Prim.Native.Nat.{ℕ, ◌*◌, ◌/◌, ◌%◌, ◌≤◌, ◌<◌}
use Rattle.std.specs.Prelude.{◌≡◌, ◌↔◌, ◌&&◌, ◌||◌, List, eqb, length, get_or}
use Rattle.std.proofs.Common.{sym, ◌∙◌, ap, inl, inr, arith, div-lt_iff_lt-mul}
use Rattle.std.proofs.Math.Bool.{Bool}
use Rattle.logic.specs.Tests.{So, so_and, and_l, and_r, or_l, or_r, or_cases, so_eqb}
use Rattle.logic.specs.Bounded.{any_below, any_intro, any_elim}
use Rattle.logic.specs.Closure.{closure, closure_same}
use Rattle.logic.specs.Sets.{has, set_of}
use Rattle.logic.specs.SetLaws.{set_of↔, set_ext}
use Rattle.description.specs.Literals.{Literal}
use Rattle.description.specs.Descriptions.{Description}
use Rattle.description.specs.Roles.{ancestor, anc_refl}
use Rattle.description.proofs.Roles.{anc_in}
use Rattle.description.specs.Acceptance.{Accepted}
use Rattle.graph.specs.Graphs.{Graph, edges_at, Keeps}
use Rattle.graph.specs.Line.{copies, direct, pairs, line}
use Rattle.graph.proofs.Copies.{owner, copies_pos}
use Rattle.lines.specs.Lines.{role_mask}

-- ---- masks of direct pairs, closed and handed to the ancestors, are the masks of the line
module _ (D : Description) (A : Accepted D) (few : D.roles ≤ 16) (W : List Literal) (G : Graph) (g : Keeps D W G) where
  abbrev K : ℕ
  K = copies G

  abbrev size : ℕ
  size = length G * K

  node_in_lem : (x : ℕ) → x < size → x / K < length G
  node_in_lem x h = (div-lt_iff_lt-mul (copies_pos G)).1 h

  -- a direct pair is of roles of the table
  pub direct_in : (r x y : ℕ) → x < size → So (direct G K r x y) → r < D.roles
  unfolding direct
  direct_in r x y h u = let w = owner (edges_at G (x / K)) (y / K) (y % K) r u in
      ((g.nodes (x / K) (node_in_lem x h)).edges_ok w.0 w.1).roles_inside r (sym (w.3 r) ∙ u)

  -- masks M of the pairs, a mask T of the transitive roles, a table a of ancestors
  module _ (M : ℕ → ℕ → ℕ) (masks : (x y : ℕ) → x < size → y < size → (r : ℕ) → has (M x y) r ≡ direct G K r x y)
      (T : ℕ) (transitive : (t : ℕ) → So (has T t) ↔ ((t < D.roles) × So (D.transitive t)))
      (a : List ℕ) (ancestors : (t : ℕ) → t < D.roles → get_or a t 0 ≡ set_of 16 (ancestor D t)) where
    abbrev pub closed : ℕ → ℕ → ℕ → Bool
    closed x y r = has (M x y) r || any_below 16 (λ t. has T t && ((eqb t r || has (get_or a t 0) r) && closure size (λ v w. has (M v w) t) x y))

    above : (t r : ℕ) → t < D.roles → So (eqb t r || has (get_or a t 0) r) ↔ So (ancestor D t r)
    above t r h = (
      λ u. elim (or_cases (eqb t r) (has (get_or a t 0) r) u) [
        | inl e ↦ rw (so_eqb t r e) (anc_refl D r)
        | inr e ↦ ((set_of↔ 16 (ancestor D t) r).0 (sym (ap (λ n. has n r) (ancestors t h)) ∙ e)).1
      ],
      λ u. or_r (eqb t r) (has (get_or a t 0) r) (ap (λ n. has n r) (ancestors t h)
          ∙ (set_of↔ 16 (ancestor D t) r).1 (let z = anc_in D A.parents_in t r h u in omega arith, u)),
    )

    closure_is : (t x y : ℕ) → x < size → y < size → closure size (λ v w. has (M v w) t) x y ≡ closure size (direct G K t) x y
    closure_is t x y hx hy = closure_same size size _ _ (omega arith) (λ v w hv hw. masks v w hv hw t) x y hx hy

    pub closed_is : (x y : ℕ) → x < size → y < size → set_of 16 (closed x y) ≡ role_mask D (line D G) x y
    unfolding pairs
    closed_is x y hx hy = set_ext _ _
        (λ r u. (set_of↔ D.roles (λ r. pairs D G K r x y) r).1 (out r ((set_of↔ 16 (closed x y) r).0 u).1))
        (λ r u. let w = (set_of↔ D.roles (λ r. pairs D G K r x y) r).0 u in (set_of↔ 16 (closed x y) r).1 (omega (arith, w.0), back r w.1))
      where
        onward : ℕ → ℕ → Bool
        onward r t = has T t && ((eqb t r || has (get_or a t 0) r) && closure size (λ v w. has (M v w) t) x y)

        upward : ℕ → ℕ → Bool
        upward r t = D.transitive t && (ancestor D t r && closure size (direct G K t) x y)

        out : (r : ℕ) → So (closed x y r) → (r < D.roles) × So (pairs D G K r x y)
        out r u = elim (or_cases (has (M x y) r) (any_below 16 (onward r)) u) [
          | inl e ↦ (let v = sym (masks x y hx hy r) ∙ e in (direct_in r x y hx v, or_l (direct G K r x y) _ v))
          | inr e ↦ (let w = any_elim 16 (onward r) e in let t = w.0 in let k = (transitive t).0 (and_l (has T t) _ w.2) in
              let v = and_r (has T t) _ w.2 in let c = (above t r k.0).0 (and_l (eqb t r || has (get_or a t 0) r) _ v) in (
                anc_in D A.parents_in t r k.0 c,
                or_r (direct G K r x y) _ (any_intro D.roles (upward r) t k.0
                    (so_and _ _ k.1 (so_and _ _ c (sym (closure_is t x y hx hy) ∙ and_r (eqb t r || has (get_or a t 0) r) _ v)))),
              ))
        ]

        back : (r : ℕ) → So (pairs D G K r x y) → So (closed x y r)
        back r u = elim (or_cases (direct G K r x y) (any_below D.roles (upward r)) u) [
          | inl e ↦ or_l (has (M x y) r) _ (masks x y hx hy r ∙ e)
          | inr e ↦ (let w = any_elim D.roles (upward r) e in let t = w.0 in let v = and_r (D.transitive t) _ w.2 in
              or_r (has (M x y) r) _ (any_intro 16 (onward r) t (omega (arith, w.1)) (so_and _ _ ((transitive t).1 (w.1, and_l (D.transitive t) _ w.2))
              (so_and _ _ ((above t r w.1).1 (and_l (ancestor D t r) _ v)) (closure_is t x y hx hy ∙ and_r (ancestor D t r) _ v)))))
        ]
