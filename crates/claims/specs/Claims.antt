-- Claims "every C is D", with one or two pieces of evidence, and the answer on one (02, job 1; FORMAT 11).
use Rattle.std.specs.Prelude.{ℕ, cond, ◌&&◌, List, [], ◌∷◌, eqb, length, Some, None, Result, Ok, Err}
use Rattle.std.specs.Prelude as Code
use Rattle.std.proofs.Math.Option.{Option, none, some}
use Rattle.logic.specs.Refusals.{Refusal, unless, refuse, first_of}
use Rattle.description.specs.Literals.{Literal, literal, opposite}
use Rattle.description.specs.Descriptions.{Description}
use Rattle.description.specs.Acceptance.{literal_test}
use Rattle.intake.specs.Intake.{bytes_test, described}
use Rattle.evidence.specs.Evidence.{head_of}
use Rattle.evidence.specs.declared.Head.{Head}
use Rattle.evidence.specs.declared.Head.TheVariants.{GraphOf, RefutationOf}
use Rattle.graph_check.specs.GraphEvidence.{graph_tests}
use Rattle.lists.specs.ListEvidence.{list_tests}
use Rattle.answers.specs.declared.Refusal as Refusals
use Rattle.answers.specs.declared.Reason.TheVariants as Reasons
use Rattle.answers.specs.Reasons.{number_of, refused}
use Rattle.answers.specs.Answers.{Word, Answer, answer, REFUSED, HOLDS, FAILS, HOLDS_OF_NOTHING}
use Rattle.claims.specs.declared.Pieces.{Pieces}
use Rattle.claims.specs.declared.Pieces.TheVariants.{ListAndGraph, GraphAlone, ListAlone}

-- c and d are the numbers of the literals C and D throughout, x the bytes of a description, s and t those of the pieces.
-- What is wanted: of an element that the claim speaks of, C; of one that breaks it, C and not D
abbrev pub subject : ℕ → List Literal
subject c = literal c ∷ []

abbrev pub counterexample : ℕ → ℕ → List Literal
counterexample c d = literal c ∷ opposite (literal d) ∷ []

-- 24: both are literals of the table
abbrev pub claim_test : Description → ℕ → ℕ → Option ℕ
claim_test D c d = unless (literal_test D (literal c) && literal_test D (literal d)) 24 none

-- the second piece may be empty; 9 is not asked of it then
abbrev pub second_of : List ℕ → Option (Code.Option Head)
second_of t = cond (eqb (length t) 0) none (some (head_of t))

-- what the pieces are, the first and then the second: three kinds that fit an answer; 9 of a piece that is no evidence, and 24 of other kinds
unfoldable pub pieces : Code.Option Head → Option (Code.Option Head) → Result Pieces Refusals.Refusal
pieces None t = Err (refused Reasons.Head 0)
pieces (Some (GraphOf n)) (some None) = Err (refused Reasons.Head 0)
pieces (Some (RefutationOf n)) (some None) = Err (refused Reasons.Head 0)
pieces (Some (RefutationOf n)) (some (Some (GraphOf m))) = Ok ListAndGraph
pieces (Some (GraphOf n)) none = Ok GraphAlone
pieces (Some (RefutationOf n)) none = Ok ListAlone
pieces (Some (GraphOf n)) (some (Some (GraphOf m))) = Err (refused Reasons.Claim 0)
pieces (Some (GraphOf n)) (some (Some (RefutationOf m))) = Err (refused Reasons.Claim 0)
pieces (Some (RefutationOf n)) (some (Some (RefutationOf m))) = Err (refused Reasons.Claim 0)

abbrev pub pieces_of : List ℕ → List ℕ → Result Pieces Refusals.Refusal
pieces_of s t = pieces (head_of s) (second_of t)

-- 9 of either piece, then 24 of kinds that fit no answer
abbrev pub kinds_refusal : Result Pieces Refusals.Refusal → Option ℕ
kinds_refusal (Ok p) = none
kinds_refusal (Err r) = some (number_of r.reason)

-- what pieces of each kind show, if nothing refuses them
abbrev pub shows : Result Pieces Refusals.Refusal → Word
shows (Ok ListAndGraph) = HOLDS
shows (Ok GraphAlone) = FAILS
shows (Ok ListAlone) = HOLDS_OF_NOTHING
shows (Err r) = REFUSED

-- 10 to 20, with what each answer wants of its pieces (their 9 has passed): the first piece whole, then the second
abbrev pub pieces_tests : Description → ℕ → ℕ → List ℕ → List ℕ → Result Pieces Refusals.Refusal → Option Refusal
pieces_tests D c d s t (Ok ListAndGraph) = first_of (list_tests D (counterexample c d) s) (graph_tests D (subject c) t)
pieces_tests D c d s t (Ok GraphAlone) = graph_tests D (counterexample c d) s
pieces_tests D c d s t (Ok ListAlone) = list_tests D (subject c) s
pieces_tests D c d s t (Err r) = none

-- in this order: 1 to 8; 26; 24 of the literals; 9 and 24 of the pieces; 10 to 20
abbrev pub claim_refused : List ℕ → ℕ → ℕ → List ℕ → List ℕ → Option Refusal
claim_refused x c d s t = refuse 0 (bytes_test x) (refuse 0 (claim_test (described x) c d)
    (refuse 0 (kinds_refusal (pieces_of s t)) (pieces_tests (described x) c d s t (pieces_of s t))))

-- Free by the paper: which of two pieces a refusal is of. The record is that of the piece refused, and the answer does not name the piece
unfoldable pub claim_answer : List ℕ → ℕ → ℕ → List ℕ → List ℕ → Answer
claim_answer x c d s t = answer (shows (pieces_of s t)) (claim_refused x c d s t)
