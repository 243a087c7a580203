-- A claim's tests as the code makes them.
use Rattle.std.specs.Prelude.{ℕ, ◌/◌, Bool, cond, ◌&&◌, List, ltb, length, Some, Result, Ok, Err}
use Rattle.std.specs.Prelude as Code
use Rattle.std.proofs.Math.Option.{Option, none}
use Rattle.logic.specs.Refusals.{Refusal, unless, refuse, first_of}
use Rattle.labels.specs.Labels.{label_with}
use Rattle.nodes.specs.NodeSteps.{opposed}
use Rattle.evidence.specs.declared.Head.{Head}
use Rattle.evidence.specs.declared.Head.TheVariants.{GraphOf, RefutationOf}
use Rattle.graph_check.specs.GraphSteps.{graph_code}
use Rattle.list_check.specs.CheckSteps.{list_code}
use Rattle.answers.specs.declared.Refusal as Refusals
use Rattle.answers.specs.Answers.{Answer, answer}
use Rattle.claims.specs.declared.Pieces.{Pieces}
use Rattle.claims.specs.declared.Pieces.TheVariants.{ListAndGraph, GraphAlone, ListAlone}
use Rattle.claims.specs.Claims.{second_of, pieces, pieces_of, kinds_refusal, shows}

-- C and not D as a set
abbrev pub counter_set : ℕ → ℕ → ℕ
counter_set c d = label_with (label_with 0 (opposed d)) c

-- a literal of the table
abbrev pub in_table : List ℕ → ℕ → Bool
in_table cs l = ltb (l / 2) (length cs / 6)

-- 24 of the literals
abbrev pub literals_code : List ℕ → ℕ → ℕ → Option ℕ
literals_code cs c d = unless (in_table cs c && in_table cs d) 24 none

-- the head of a list, or else of a graph, of n records
abbrev pub head_for : Bool → ℕ → Code.Option Head
head_for list n = cond list (Some (RefutationOf n)) (Some (GraphOf n))

-- the kinds where the first piece is a list, or else a graph, of any number of records
abbrev pub kinds_after : Bool → List ℕ → Result Pieces Refusals.Refusal
kinds_after list t = pieces (head_for list 0) (second_of t)

-- 10 to 20 of the pieces, by the masks a of m roles
abbrev pub pieces_code : Bool → List ℕ → ℕ → List ℕ → List ℕ → ℕ → ℕ → List ℕ → List ℕ → Result Pieces Refusals.Refusal → Option Refusal
pieces_code b a m cs qs c d s t (Ok ListAndGraph) = first_of (list_code b a cs qs (counter_set c d) s) (graph_code a m cs qs (label_with 0 c) t)
pieces_code b a m cs qs c d s t (Ok GraphAlone) = graph_code a m cs qs (counter_set c d) s
pieces_code b a m cs qs c d s t (Ok ListAlone) = list_code b a cs qs (label_with 0 c) s
pieces_code b a m cs qs c d s t (Err r) = none

-- the answer on an opened description, without or with a fourth part
unfoldable pub opened_claim : Bool → List ℕ → ℕ → List ℕ → List ℕ → ℕ → ℕ → List ℕ → List ℕ → Answer
opened_claim b a m cs qs c d s t = let p = pieces_of s t in
    answer (shows p) (refuse 0 (literals_code cs c d) (refuse 0 (kinds_refusal p) (pieces_code b a m cs qs c d s t p)))
