-- Copies: each is taken by one edge, so along the direct pairs of a role the copies counted are the counts added up.
use Rattle.std.specs.Prelude.{ℕ, zero, suc, ◌+◌, ◌-◌, ◌*◌, ◌/◌, ◌%◌, ◌≤◌, ◌<◌, ◌≡◌, refl, Bool, true, false, cond, ◌&&◌, List, [], ◌∷◌, eqb, ltb, length}
use Rattle.std.proofs.Common.{sym, ◌∙◌, ap, ap₂, subst, inl, inr, arith, mod-eq_of_lt, suc-mul, zero-mul}
use Rattle.std.proofs.lemmas.Bool.{false≢true}
use mathlib.Core.List.Memᴰ
use Rattle.std.proofs.Math.Nat.{mul-add-div_right, mul-add-mod_self_right, div-eq_of_lt}
use Rattle.logic.specs.Tests.{So, decide, so_false, so_eqb, eqb_so, so_ltb, ltb_so, and_l}
use Rattle.logic.specs.Lists.{◌∈◌}
use Rattle.logic.specs.Sums.{sum_below, only, count_below, max_below, max_above, only_on, only_off, sum_cong, sum_zero, sum_add, sum_append, sum_one, count_all}
use Rattle.graph.specs.Graphs.{Edge, Graph, edges_at, of_role, total}
use Rattle.graph.specs.Line.{copies, joins}

-- ---- counts
-- of K copies the first c pass as one, and the others as g says
first_copies : (g : ℕ → Bool) (c K : ℕ) (m b : Bool) → c ≤ K
    → count_below K (λ j. cond (ltb j c) m (g (j - c)) && b) ≡ only (m && b) c + count_below (K - c) (λ i. g i && b)
first_copies g c K m b h =
    let all : K ≡ c + (K - c) = omega arith in
    ap (λ k. sum_below k f) all ∙ sum_append c (K - c) f
    ∙ ap₂ ◌+◌ (sum_cong c f (λ _. only (m && b) 1) first ∙ alike (m && b)) (sum_cong (K - c) (λ i. f (c + i)) (λ i. only (g i && b) 1) later)
  where
    f : ℕ → ℕ
    f j = only (cond (ltb j c) m (g (j - c)) && b) 1

    first : (j : ℕ) → j < c → f j ≡ only (m && b) 1
    first j k = rw (ltb_so j c k)

    alike : (t : Bool) → count_below c (λ _. t) ≡ only t c
    alike true = count_all c (λ _. true) (λ j k. refl)
    alike false = sum_zero c (λ _. 0) (λ j k. refl)

    later : (i : ℕ) → i < K - c → f (c + i) ≡ only (g i && b) 1
    later i _ = let e : c + i - c ≡ i = omega arith in rw (so_false (ltb (c + i) c) (λ q. omega (arith, so_ltb (c + i) c q)), e)

-- the copies of y that role r joins are the counts of the edges to y of that role, if all edges to y have room
joins_count : (es : List Edge) (K y r : ℕ) (b : Bool) → total es (λ E. eqb E.target y) ≤ K
    → count_below K (λ j. joins es y j r && b) ≡ total es (λ E. eqb E.target y && (of_role r E && b))
unfolding joins total
joins_count [] K y r b h = sum_zero K (λ j. 0) (λ i _. refl)
joins_count (E ∷ es) K y r b h = elim (decide (eqb E.target y)) [
  | inl u ↦ let n = only_on (eqb E.target y) E.count u in
      rw u (first_copies (λ j. joins es y j r) E.count K (of_role r E) b (omega arith)
      ∙ ap (only (of_role r E && b) E.count +◌) (joins_count es (K - E.count) y r b (omega arith)))
  | inr u ↦ rw (so_false _ u) (omega (arith, joins_count es K y r b (omega arith)))
]

-- the elements of a line, node by node
by_node_lem : (n K : ℕ) (f : ℕ → ℕ → ℕ) → 1 ≤ K → sum_below (n * K) (λ w. f (w / K) (w % K)) ≡ sum_below n (λ y. sum_below K (λ j. f y j))
unfolding sum_below
by_node_lem zero K f h = rw zero-mul
by_node_lem (suc n) K f h = rw suc-mul (sum_append (n * K) K (λ w. f (w / K) (w % K))
    ∙ ap₂ ◌+◌ (by_node_lem n K f h) (sum_cong K (λ j. f ((n * K + j) / K) ((n * K + j) % K)) (f n) (λ j k. ap₂ f (node j k) (copy j k))))
  where
    node : (j : ℕ) → j < K → (n * K + j) / K ≡ n
    node j k = mul-add-div_right h n j ∙ (let e = div-eq_of_lt k in omega arith)

    copy : (j : ℕ) → j < K → (n * K + j) % K ≡ j
    copy j k = mul-add-mod_self_right n K j ∙ mod-eq_of_lt k

-- each edge's target is one node
by_target : (n : ℕ) (es : List Edge) (p : Edge → ℕ → Bool) → ((E : Edge) → E ∈ es → E.target < n)
    → sum_below n (λ y. total es (λ E. eqb E.target y && p E y)) ≡ total es (λ E. p E E.target)
unfolding total
by_target n [] p h = sum_zero n (λ _. 0) (λ y _. refl)
by_target n (E ∷ es) p h = sum_add n one (λ y. total es (λ F. eqb F.target y && p F y))
    ∙ ap₂ ◌+◌ (sum_one n one E.target (h E (Memᴰ.head refl)) other ∙ rw (eqb_so E.target)) (by_target n es p (λ F m. h F (Memᴰ.tail m)))
  where
    one : ℕ → ℕ
    one y = only (eqb E.target y && p E y) E.count

    other : (y : ℕ) → y < n → (y ≡ E.target → ⊥) → one y ≡ 0
    other y _ d = only_off (eqb E.target y && p E y) E.count (λ u. d (sym (so_eqb E.target y (and_l (eqb E.target y) (p E y) u))))

-- the copies that role r joins, of nodes that pass a test, counted
pub count_direct : (n K : ℕ) (es : List Edge) (r : ℕ) (q : ℕ → Bool) → 1 ≤ K → ((E : Edge) → E ∈ es → E.target < n)
    → ((y : ℕ) → y < n → total es (λ E. eqb E.target y) ≤ K)
    → count_below (n * K) (λ w. joins es (w / K) (w % K) r && q (w / K)) ≡ total es (λ E. of_role r E && q E.target)
count_direct n K es r q h targets room = by_node_lem n K (λ y j. only (joins es y j r && q y) 1) h
    ∙ sum_cong n _ _ (λ y k. joins_count es K y r (q y) (room y k))
    ∙ by_target n es (λ E y. of_role r E && q y) targets

-- an edge that passes has its count in the total
pub total_at : (es : List Edge) (p : Edge → Bool) (E : Edge) → E ∈ es → So (p E) → E.count ≤ total es p
unfolding total
total_at [] p E m q = elim m [ ]
total_at (F ∷ es) p E m q = elim (Memᴰ.cases_cons m) [
  | inl e ↦ let y = ap (λ X. X.count) e in omega (arith, only_on (p F) F.count (subst (λ X. So (p X)) e q))
  | inr t ↦ omega (arith, total_at es p E t q)
]

-- ---- one pair
-- the edge that takes copy j of y: a pair to it has just that edge's roles
abbrev pub Owner : List Edge → ℕ → ℕ → Type 0
Owner es y j = (E : Edge) × (E ∈ es) × (E.target ≡ y) × ((s : ℕ) → joins es y j s ≡ of_role s E)

pub owner : (es : List Edge) (y j r : ℕ) → So (joins es y j r) → Owner es y j
unfolding joins
owner [] y j r e = absurd (false≢true e)
owner (E ∷ es) y j r e = elim (decide (eqb E.target y)) [
  | inl u ↦ elim (decide (ltb j E.count)) [
    | inl v ↦ (E, Memᴰ.head refl, so_eqb E.target y u, λ s. rw (u, v))
    | inr v ↦ later (j - E.count) (owner es y (j - E.count) r) (λ s. rw (u, so_false _ v))
  ]
  | inr u ↦ later j (owner es y j r) (λ s. rw (so_false _ u))
]
  where
    later : (i : ℕ) → (So (joins es y i r) → Owner es y i) → ((s : ℕ) → joins (E ∷ es) y j s ≡ joins es y i s) → Owner (E ∷ es) y j
    later i find same = let w = find (sym (same r) ∙ e) in (w.0, Memᴰ.tail w.1, w.2, λ s. same s ∙ w.3 s)

-- ---- K
pub copies_pos : (G : Graph) → 1 ≤ copies G
unfolding copies
copies_pos G = omega arith

-- there are copies enough for the edges between any two nodes
pub room : (G : Graph) (x y : ℕ) → x < length G → y < length G → total (edges_at G x) (λ E. eqb E.target y) ≤ copies G
unfolding copies
room G x y hx hy = omega (arith, max_above (length G) (to x) y hy, max_above (length G) (λ x. max_below (length G) (to x)) x hx)
  where
    to : ℕ → ℕ → ℕ
    to x y = total (edges_at G x) (λ E. eqb E.target y)
