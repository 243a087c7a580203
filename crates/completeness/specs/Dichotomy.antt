-- For every accepted description exactly one of two exists, for any wanted literals of the table: a graph that keeps the rules,
-- then one with at most 2^entries nodes; or a refutation that closes.
use Rattle.std.specs.Prelude.{ℕ, zero, suc, ◌+◌, ◌-◌, ◌^◌, ◌≤◌, ◌<◌, ◌≡◌, refl, ◌↔◌, ◌⊎◌, Bool, ◌&&◌, ltb, length, take}
use Rattle.std.proofs.Common.{sym, ◌∙◌, arith, get_or-take, length-take-le}
use Rattle.std.proofs.Math.Path.{ap, subst}
use Rattle.std.proofs.Math.Logic.{inl, inr}
use Rattle.std.proofs.Math.Bool.{cond}
use Rattle.std.proofs.lemmas.Bool.{false≢true}
use mathlib.Core.List.{List, [], ◌∷◌}
use Rattle.std.proofs.Math.Nat.{one-le-pow}
use Rattle.logic.specs.Tests.{So, decide, so_and, and_l, and_r, so_false, so_ltb, ltb_so}
use Rattle.logic.specs.Bounded.{any_below, any_intro, any_elim}
use Rattle.logic.specs.Lists.{◌∈◌, each, each↔, some?, some↔, tabulate, length_tabulate, at_tabulate}
use Rattle.logic.specs.Sets.{has}
use Rattle.logic.specs.SetLaws.{no_member}
use Rattle.description.specs.Literals.{Literal, pos, entry_of, same_literal, same_literal_lem, literal_same, Label, members, label_of, InTable}
use Rattle.description.specs.Descriptions.{Description}
use Rattle.description.specs.Acceptance.{Accepted}
use Rattle.interpretation.specs.Meaning.{Interpretation}
use Rattle.interpretation.specs.Models.{Model, Satisfies}
use Rattle.graph.specs.Graphs.{Edge, Node, Graph, node_at, label_at, edges_at, LabelOk, NodeOk, wanted_at, Keeps}
use Rattle.graph.specs.Line.{line}
use Rattle.graph.proofs.Sound.{graph_sound}
use Rattle.graph.specs.Relabel.{relabel}
use Rattle.refutation.specs.Records.{Refutation, number_at, Valid, Closes}
use Rattle.refutation.proofs.Sound.{refutation_sound}
use Rattle.completeness.specs.Derivable.{Derivable, Reaches, cut_valid, label_is}
use Rattle.completeness.specs.Types.{typ, typ_in, pos_out}
use Rattle.completeness.specs.Elimination.{type, Dropped, Supported, AllSupported, none_contains, remaining}

-- a record of which W is wanted, if its label has it
want : (D : Description) (size : ℕ) (lab : ℕ → Label) (W : List Literal) (L : Label) (es : List Edge) → ((l : Literal) → l ∈ W → So (L l))
    → NodeOk D size lab [] L es → NodeOk D size lab W L es
want D size lab W L es h o = record {
  label_ok = record {
    inside_table = o.label_ok.inside_table;
    has_top = o.label_ok.has_top;
    has_rules = o.label_ok.has_rules;
    consistent = o.label_ok.consistent;
    has_wanted = h;
  };
  both_ok = o.both_ok;
  edges_ok = o.edges_ok;
  every_ok = o.every_ok;
  count_ok = o.count_ok;
}

module _ (D : Description) (A : Accepted D) (W : List Literal) where
  abbrev n : ℕ
  n = D.entries

  -- ---- the remaining types as a graph: node x is type x if it remains, else the wanted type again. Type 0 lacks literal 0 and
  -- never remains, so node 0 is the wanted type
  module _ (S : ℕ → Bool) (all : AllSupported D A S) (w : ℕ) (hw : w < 2 ^ n) (sw : So (S w)) (wanted : (l : Literal) → l ∈ W → So (type D A w l)) where
    stand : ℕ → ℕ
    stand x = cond (ltb x (2 ^ n) && S x) x w

    stand_ok : (x : ℕ) → (stand x < 2 ^ n) × So (S (stand x))
    unfolding stand
    stand_ok x = elim (decide (ltb x (2 ^ n) && S x)) [
      | inl u ↦ rw u (so_ltb x (2 ^ n) (and_l _ _ u), and_r (ltb x (2 ^ n)) (S x) u)
      | inr u ↦ rw (so_false _ u) (hw, sw)
    ]

    stand_self : (x : ℕ) → x < 2 ^ n → So (S x) → stand x ≡ x
    unfolding stand
    stand_self x h u = ap (λ b. cond b x w) (so_and _ _ (ltb_so x (2 ^ n) h) u)

    support : (x : ℕ) → Supported D A S (stand x)
    support x = all (stand x) (stand_ok x).0 (stand_ok x).1

    node : ℕ → Node
    node x = record { label = label_of n (type D A (stand x)); edges = (support x).edges }

    types : Graph
    types = tabulate (2 ^ n) node

    size_is : length types ≡ 2 ^ n
    unfolding types
    size_is = length_tabulate (2 ^ n) node

    node_is : (x : ℕ) → x < 2 ^ n → node_at types x ≡ node x
    unfolding types
    node_is x h = at_tabulate (2 ^ n) node _ x h

    label_at_lem : (x : ℕ) → x < 2 ^ n → label_at types x ≡ type D A (stand x)
    unfolding node
    label_at_lem x h = ap (λ N. members N.label) (node_is x h) ∙ label_is n (type D A (stand x)) (typ_in n (has (stand x)))

    node_ok : (x : ℕ) → x < 2 ^ n → NodeOk D (length types) (label_at types) [] (label_at types x) (edges_at types x)
    unfolding node
    node_ok x h = rw size_is (subst (λ N. NodeOk D (2 ^ n) (label_at types) [] (members N.label) N.edges) (sym (node_is x h))
        (relabel D (2 ^ n) (type D A) (label_at types) [] (type D A (stand x)) (members (label_of n (type D A (stand x)))) (support x).edges
        (λ E m l. let t = ((support x).node.edges_ok E m).target_in in
        ap (λ L. L l) (label_at_lem E.target t ∙ ap (type D A) (stand_self E.target t ((support x).remain E m))))
        (λ l. ap (λ L. L l) (label_is n (type D A (stand x)) (typ_in n (has (stand x))))) (support x).node))

    first_stand : stand 0 ≡ w
    unfolding stand
    first_stand = ap (λ b. cond b 0 w) (so_false (ltb 0 (2 ^ n) && S 0) (λ u.
        no_member 0 (pos_out n (has 0) 0 (all 0 (so_ltb 0 (2 ^ n) (and_l _ _ u)) (and_r (ltb 0 (2 ^ n)) (S 0) u)).node.label_ok.has_top)))

    types_keep : Keeps D W types
    types_keep = record {
      some_node = omega (arith, size_is, one-le-pow n 2 (omega arith));
      nodes = λ x h. wanted_of x (rw size_is at h);
    }
      where
        wanted_of : (x : ℕ) → x < 2 ^ n → NodeOk D (length types) (label_at types) (wanted_at W x) (label_at types x) (edges_at types x)
        wanted_of zero h = want D (length types) (label_at types) W (label_at types 0) (edges_at types 0)
            (λ l m. subst (λ L. So (L l)) (sym (label_at_lem 0 h ∙ ap (type D A) first_stand)) (wanted l m)) (node_ok 0 h)
        wanted_of (suc x) h = node_ok (suc x) h

  -- ---- the wanted literals as a label
  wanted_label : Label
  wanted_label l = some? W (λ m. same_literal m l)

  wanted↔ : (l : Literal) → So (wanted_label l) ↔ (l ∈ W)
  unfolding wanted_label
  wanted↔ l = (
    λ h. let w = (some↔ W (λ m. same_literal m l)).0 h in subst (λ k. k ∈ W) (same_literal_lem w.0 l w.2) w.1,
    λ m. (some↔ W (λ m. same_literal m l)).1 (l, m, literal_same l),
  )

  -- a valid list with a record whose label is within what is wanted, cut after that record
  close : Reaches D wanted_label [] → (C : Refutation) × Closes D W C
  close r = (
    take m r.list,
    record {
      some_record = omega (arith, long);
      valid = valid;
      end = λ l u. inr ((wanted↔ l).0 (r.lies l (subst (λ N. So (members N l)) last u)));
    },
  )
    where
      m : ℕ
      m = suc r.at

      long : length (take m r.list) ≡ m
      long = length-take-le m r.list r.at_in

      valid : Valid D (take m r.list)
      valid = cut_valid D r.list m r.at_in r.valid

      last : number_at (take m r.list) (length (take m r.list) - 1) ≡ number_at r.list r.at
      last = let e : length (take m r.list) - 1 ≡ r.at = omega (arith, long) in
          ap (number_at (take m r.list)) e ∙ ap (λ R. R.label) (get_or-take m r.list r.at _ (omega arith))

  -- what is wanted is of the table
  module _ (W-in : (l : Literal) → l ∈ W → entry_of l < n) where
    pub dichotomy : ((G : Graph) × Keeps D W G × (length G ≤ 2 ^ n)) ⊎ ((C : Refutation) × Closes D W C)
    dichotomy =
        let (S, dropped, all) = remaining D A in
        elim (decide (any_below (2 ^ n) (λ c. S c && each W (type D A c)))) [
          | inl u ↦ let w = any_elim (2 ^ n) (λ c. S c && each W (type D A c)) u in
              let s = and_l _ _ w.2 in let v = (each↔ W (type D A w.0)).0 (and_r (S w.0) _ w.2) in
              inl (types S all w.0 w.1 s v, types_keep S all w.0 w.1 s v, omega (arith, size_is S all w.0 w.1 s v))
          | inr u ↦ inr (close (none_contains D A S dropped wanted_label (λ l h. W-in l ((wanted↔ l).0 h))
              (λ c hc sc k. u (any_intro (2 ^ n) (λ c. S c && each W (type D A c)) c hc (so_and _ _ sc ((each↔ W (type D A c)).1 (λ l m. k l ((wanted↔ l).1 m)))))) [] (record { forms = λ i h. absurd (omega arith); records = λ i h. absurd (omega arith) })))
        ]

    -- not both: a graph's line would be a model that the refutation rules out
    pub exclusive : (G : Graph) → Keeps D W G → (C : Refutation) → Closes D W C → ⊥
    exclusive G g C c = let w = graph_sound D A W G g in refutation_sound D A W C c (line D G) w.0 w.1

    -- if any graph keeps the rules, one of at most 2^entries nodes does
    pub small_graph : (G : Graph) → Keeps D W G → (H : Graph) × Keeps D W H × (length H ≤ 2 ^ n)
    small_graph G g = elim dichotomy [ inl w ↦ w | inr c ↦ absurd (exclusive G g c.0 c.1) ]

    -- exactly one of two: a graph, and then a small one, or a refutation
    pub exactly_one : (((G : Graph) × Keeps D W G × (length G ≤ 2 ^ n)) ⊎ ((C : Refutation) × Closes D W C))
        × (((G : Graph) × Keeps D W G) → ((C : Refutation) × Closes D W C) → ⊥)
    exactly_one = (dichotomy, λ g c. exclusive g.0 g.1 c.0 c.1)

    -- a graph exists exactly if some finite model satisfies what is wanted, and a refutation exactly if none does
    pub graph_exists : ((G : Graph) × Keeps D W G) ↔ ((I : Interpretation) × Model D I × Satisfies D W I)
    graph_exists = (
      λ g. let w = graph_sound D A W g.0 g.1 in (line D g.0, w.0, w.1),
      λ m. elim dichotomy [ inl w ↦ (w.0, w.1) | inr c ↦ absurd (refutation_sound D A W c.0 c.1 m.0 m.1 m.2) ],
    )

    pub refutation_exists : ((C : Refutation) × Closes D W C) ↔ (((I : Interpretation) × Model D I × Satisfies D W I) → ⊥)
    refutation_exists = (
      λ c m. refutation_sound D A W c.0 c.1 m.0 m.1 m.2,
      λ h. elim dichotomy [ inl w ↦ absurd (h (graph_exists.0 (w.0, w.1))) | inr c ↦ c ],
    )
