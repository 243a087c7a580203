-- The bytes of a graph's record (01, "Evidence", Graph; FORMAT 4). That they are read back, and written again as they were read, is in
-- proofs/Nodes.
use Rattle.std.specs.Prelude.{ℕ, ◌+◌, ◌*◌, ◌^◌, ◌≤◌, ◌<◌, length}
use mathlib.Core.List.{List, ◌∷◌, ◌++◌, map, flatten}
use Rattle.logic.specs.Lists.{◌∈◌}
use Rattle.graph.specs.Graphs.{Edge, Node}
use Rattle.evidence.specs.declared.Layout.{Layout}
use Rattle.evidence.specs.Evidence.{label_size, most_edges}
use Rattle.laying.specs.Numbers.{two, label}

-- the target, the mask, the count
abbrev pub encode_edge : Edge → List ℕ
encode_edge E = E.target ∷ (two E.mask ++ two E.count)

-- a label, then edges
unfoldable pub encode_node : Layout → Node → List ℕ
encode_node f N = label f.wide N.label ++ flatten (map encode_edge N.edges)

-- ---- what these bytes have room for
pub record EdgeWidth (E : Edge) : Type 0 where
  pub target_fits : E.target < 256
  pub mask_fits : E.mask < 65536
  pub count_fits : E.count < 65536

pub record NodeWidth (f : Layout) (N : Node) : Type 0 where
  pub label_fits : N.label < 2 ^ (8 * label_size f)
  pub few_edges : length N.edges ≤ most_edges
  pub edges_fit : (E : Edge) → E ∈ N.edges → EdgeWidth E
