-- Graphs and their rules, numbers 11 to 15 (01, "Evidence", Graph; FORMAT 4).
-- The rules know no limits; those of stored graphs stand at the end, apart.
use Rattle.std.specs.Prelude.{ℕ, zero, suc, ◌+◌, ◌≤◌, ◌<◌, ◌≡◌, ◌⊎◌, Bool, ◌&&◌, List, [], ◌∷◌, length, get_or}
use Rattle.logic.specs.Tests.{So}
use Rattle.logic.specs.Lists.{◌∈◌}
use Rattle.logic.specs.Sums.{only}
use Rattle.logic.specs.Sets.{has}
use Rattle.description.specs.Literals.{Literal, pos, neg, opposite, Label, members, InTable}
use Rattle.description.specs.Descriptions.{both, every, at_least, Description, Compatible}
use Rattle.description.specs.Roles.{ancestor}

-- bit r of the mask: an edge of role r
pub record Edge : Type 0 where
  pub target : ℕ
  pub mask : ℕ
  pub count : ℕ

-- a record of a graph; bit l of the label is literal l
pub record Node : Type 0 where
  pub label : ℕ
  pub edges : List Edge

abbrev pub Graph : Type 0
Graph = List Node

abbrev pub node_at : Graph → ℕ → Node
node_at G x = get_or G x (record { label = 0; edges = [] })

abbrev pub label_at : Graph → ℕ → Label
label_at G x = members (node_at G x).label

abbrev pub edges_at : Graph → ℕ → List Edge
edges_at G x = (node_at G x).edges

-- an edge of role r
abbrev pub of_role : ℕ → Edge → Bool
of_role r E = has E.mask r

-- the counts of the edges that pass, added up
unfoldable pub total : List Edge → (Edge → Bool) → ℕ
total [] p = 0
total (E ∷ es) p = only (p E) E.count + total es p

-- 11: a label is a consistent set of literals of the table, with all that must be true at the node
pub record LabelOk (D : Description) (W : List Literal) (L : Label) : Type 0 where
  pub inside_table : InTable D.entries L
  pub has_top : So (L (pos 0))
  pub has_rules : (i : ℕ) → i < D.rules → So (L (D.rule i))
  pub consistent : (e : ℕ) → e < D.entries → So (L (pos e)) → So (L (neg e)) → ⊥
  pub has_wanted : (l : Literal) → l ∈ W → So (L l)

-- 12: a label that has a conjunction has its parts; one that denies it denies a part
abbrev pub BothOk : Description → Label → Type 0
BothOk D L = (e : ℕ) → e < D.entries → (a b : Literal) → D.entry e ≡ both a b
    → (So (L (pos e)) → So (L a) × So (L b)) × (So (L (neg e)) → So (L (opposite a)) ⊎ So (L (opposite b)))

-- 13: an edge leads to a node, along a set of roles of the table that is closed upwards, has a member and holds no two roles that never share
-- a filler, to at least one filler
pub record EdgeOk (D : Description) (size : ℕ) (E : Edge) : Type 0 where
  pub target_in : E.target < size
  pub some_role : (r : ℕ) × So (of_role r E)
  pub roles_inside : (r : ℕ) → So (of_role r E) → r < D.roles
  pub roles_up : (r : ℕ) → r < D.roles → So (of_role r E) → (s : ℕ) → s < D.roles → So (ancestor D r s) → So (of_role s E)
  pub roles_compatible : Compatible D (λ r. of_role r E)
  pub some_copy : 1 ≤ E.count

-- what "every R l" (∀R.l) passes along an R edge: l itself, and for the transitive roles T ⊑* R on the edge the "every T l" that carries it on.
-- "every T l" is each entry that is it: there is one by test 7, and one only by test 6
abbrev pub Passes : Description → ℕ → Literal → Edge → Label → Type 0
Passes D r l E M = So (M l) × ((t : ℕ) → t < D.roles → So (D.transitive t) → So (of_role t E) → So (ancestor D t r)
    → (f : ℕ) → f < D.entries → every t l ≡ D.entry f → So (M (pos f)))

-- how many R fillers with l the edges give
abbrev pub counted : (ℕ → Label) → List Edge → ℕ → Literal → ℕ
counted lab es r l = total es (λ E. of_role r E && lab E.target l)

module _ (D : Description) (lab : ℕ → Label) (L : Label) (es : List Edge) where
  -- 14: an "every" of the label is kept by each edge of its role; a denied one is broken by some edge
  abbrev pub EveryOk : Type 0
  EveryOk = (e : ℕ) → e < D.entries → (r : ℕ) (l : Literal) → D.entry e ≡ every r l
      → (So (L (pos e)) → (E : Edge) → E ∈ es → So (of_role r E) → Passes D r l E (lab E.target))
      × (So (L (neg e)) → (E : Edge) × (E ∈ es) × (So (of_role r E) × So (lab E.target (opposite l))))

  -- 15: an "at least" of the label is reached; a denied one is not, and there each filler's label says whether it counts
  abbrev pub CountOk : Type 0
  CountOk = (e : ℕ) → e < D.entries → (r : ℕ) (l : Literal) (n : ℕ) → D.entry e ≡ at_least r l n
      → (So (L (pos e)) → n ≤ counted lab es r l)
      × (So (L (neg e)) → (counted lab es r l < n) × ((E : Edge) → E ∈ es → So (of_role r E) → So (lab E.target l) ⊎ So (lab E.target (opposite l))))

-- one record with label L and edges es, in a graph of that size with those labels, where W is wanted of it
pub record NodeOk (D : Description) (size : ℕ) (lab : ℕ → Label) (W : List Literal) (L : Label) (es : List Edge) : Type 0 where
  pub label_ok : LabelOk D W L
  pub both_ok : BothOk D L
  pub edges_ok : (E : Edge) → E ∈ es → EdgeOk D size E
  pub every_ok : EveryOk D lab L es
  pub count_ok : CountOk D lab L es

-- the literals W are wanted of record 0, none of any other
abbrev pub wanted_at : List Literal → ℕ → List Literal
wanted_at W zero = W
wanted_at W (suc x) = []

-- the graph keeps the rules
pub record Keeps (D : Description) (W : List Literal) (G : Graph) : Type 0 where
  pub some_node : 1 ≤ length G
  pub nodes : (x : ℕ) → x < length G → NodeOk D (length G) (label_at G) (wanted_at W x) (label_at G x) (edges_at G x)

-- limits on stored graphs, as tests of the number of edges of a record and of a count
pub record GraphLimits : Type 0 where
  pub edges : ℕ → Bool
  pub count : ℕ → Bool

pub record GraphFits (lim : GraphLimits) (G : Graph) : Type 0 where
  pub edges_fit : (x : ℕ) → x < length G → So (lim.edges (length (edges_at G x)))
  pub counts_fit : (x : ℕ) → x < length G → (E : Edge) → E ∈ edges_at G x → So (lim.count E.count)
