-- Demand 3 on bytes: lifted evidence, and the bytes that it is read from (01, "Evidence", last paragraph).
use Rattle.std.specs.Prelude.{ℕ, ◌<◌, ◌≡◌, List, length}
use Rattle.parts.specs.Numbers.{byte_at}
use Rattle.description.specs.Descriptions.{Description, wanted}
use Rattle.graph.specs.Graphs.{Graph, Keeps, GraphFits}
use Rattle.graph.specs.GraphTests.{stored_graph}
use Rattle.refutation.specs.Records.{Refutation, Closes, RefutationFits}
use Rattle.refutation.specs.RecordTests.{stored_refutation}
use Rattle.evidence.specs.declared.Layout.{Layout}
use Rattle.evidence.specs.Evidence.{HeadOk, record_count, record_at, graph_in, NodeForm}
use Rattle.lists.specs.Lists.{refutation_in, RecordForm}
use Rattle.encoding.specs.Encoding.{encode_graph, GraphStored, encode_refutation, RefutationStored}
use Rattle.answers.specs.Answers.{Word, INHABITED, EMPTY}

-- a sample graph or a refutation (01: closing list), with no limit on any number
pub data Evidence : Type 0 where
  sample : Graph → Evidence
  refutation : Refutation → Evidence

-- evidence keeps the rules, limits apart
abbrev pub KeepsRules : Description → Evidence → Type 0
KeepsRules D (sample G) = Keeps D (wanted D) G
KeepsRules D (refutation C) = Closes D (wanted D) C

-- the limits on the size of stored evidence: of a graph's edges and counts (10, 13); of a refutation's rows, depths and split values (10, 19)
abbrev pub WithinLimits : Evidence → Type 0
WithinLimits (sample G) = GraphFits stored_graph G
WithinLimits (refutation C) = RefutationFits stored_refutation C

-- the word that tells that it keeps the rules
abbrev pub word_of : Evidence → Word
word_of (sample G) = INHABITED
word_of (refutation C) = EMPTY

-- bytes that are that evidence, stored as f says: 9 and 10 pass, and it is what the records are
abbrev pub Decodes : Layout → List ℕ → Evidence → Type 0
Decodes f s (sample G) = HeadOk s × (byte_at s 0 ≡ 1) × ((x : ℕ) → x < record_count s → NodeForm f (length (record_at s x))) × (graph_in f s ≡ G)
Decodes f s (refutation C) = HeadOk s × (byte_at s 0 ≡ 2) × ((x : ℕ) → x < record_count s → RecordForm f (record_at s x)) × (refutation_in f s ≡ C)

-- what bytes have room for: 64 records, and the widths of pairs and of all numbers
abbrev pub Stored : Layout → Evidence → Type 0
Stored f (sample G) = GraphStored f G
Stored f (refutation C) = RefutationStored f C

abbrev pub encode : Layout → Evidence → List ℕ
encode f (sample G) = encode_graph f G
encode f (refutation C) = encode_refutation f C
