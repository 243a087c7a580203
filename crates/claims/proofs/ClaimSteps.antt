-- A claim's tests as the code makes them are, for an accepted description, those of Claims.
use Rattle.std.specs.Prelude.{ℕ, ◌/◌, ◌<◌, ◌≤◌, ◌≡◌, refl, Bool, true, false, ◌&&◌, List, length, Some, None, Result, Ok, Err}
use Rattle.std.specs.Prelude as Code
use Rattle.std.proofs.Math.Path.{sym, ap}
use Rattle.std.proofs.Common.{◌∙◌, ap₂, arith, ne_eqb}
use Rattle.std.proofs.Math.Option.{Option, none, some}
use Rattle.logic.specs.Tests.{and_l, and_r, so_ltb}
use Rattle.logic.specs.Refusals.{Refusal, unless, unless↔, refuse, refuse_then, first_of, refuse_some, refuse_none}
use Rattle.description.specs.Literals.{Literal, pos, neg, literal, opposite, code, entry_of, adding, literal_set, code_literal, literal_code, entry_of_opposite}
use Rattle.description.specs.Acceptance.{literal_test}
use Rattle.description.specs.Descriptions.{Description}
use Rattle.tables.specs.Tables.{records_in, is_there, describe}
use Rattle.labels.specs.Labels.{most_entries, label_with}
use Rattle.roles.specs.Ancestors.{role_count}
use Rattle.roles.specs.Records.{MasksOf}
use Rattle.directory.specs.Directory.{four, four_there, disjoint_part, roles_part, concepts_part, query_part}
use Rattle.intake.specs.Intake.{parts_test, parts_accepted, bytes_test}
use Rattle.intake.specs.Opening.{wholly_none, parts_fine}
use Rattle.nodes.specs.NodeSteps.{opposed, put_is}
use Rattle.evidence.specs.Evidence.{head_of}
use Rattle.evidence.specs.declared.Head.{Head}
use Rattle.evidence.specs.declared.Head.TheVariants.{GraphOf, RefutationOf}
use Rattle.graph_check.specs.GraphEvidence.{graph_tests}
use Rattle.graph_check.specs.GraphSteps.{graph_code}
use Rattle.graph_check.specs.GraphJoin.{graph_is}
use Rattle.lists.specs.ListEvidence.{list_tests}
use Rattle.list_check.specs.CheckSteps.{list_code}
use Rattle.list_check.specs.CheckJoin.{list_is}
use Rattle.answers.specs.declared.Judgement.{Judgement}
use Rattle.answers.specs.declared.Refusal as Refusals
use Rattle.answers.specs.declared.Reason.TheVariants as Reasons
use Rattle.answers.specs.Reasons.{number_of, refused}
use Rattle.answers.specs.Answers.{answer, wholly, numbered, told_by, of_judgement, Word, REFUSED, HOLDS, FAILS, HOLDS_OF_NOTHING}
use Rattle.claims.specs.declared.Pieces.{Pieces}
use Rattle.claims.specs.declared.Pieces.TheVariants.{ListAndGraph, GraphAlone, ListAlone}
use Rattle.claims.specs.Claims.{subject, counterexample, claim_test, second_of, pieces, pieces_of, kinds_refusal, shows, pieces_tests, claim_answer}
use Rattle.claims.specs.ClaimSteps.{counter_set, in_table, literals_code, head_for, kinds_after, pieces_code, opened_claim}

-- ---- laws for the code: the kinds
-- the number of records does not matter
pub first_is : (s t : List ℕ) (list : Bool) (n : ℕ) → head_for list n ≡ head_of s → kinds_after list t ≡ pieces_of s t
unfolding pieces
first_is s t list n e = go list (second_of t) ∙ ap (λ h. pieces h (second_of t)) e
  where
    go : (list : Bool) (o : Option (Code.Option Head)) → pieces (head_for list 0) o ≡ pieces (head_for list n) o
    go true none = refl
    go true (some None) = refl
    go true (some (Some (GraphOf m))) = refl
    go true (some (Some (RefutationOf m))) = refl
    go false none = refl
    go false (some None) = refl
    go false (some (Some (GraphOf m))) = refl
    go false (some (Some (RefutationOf m))) = refl

pub off_first : (s t : List ℕ) → None ≡ head_of s → Err (refused Reasons.Head 0) ≡ pieces_of s t
unfolding pieces
off_first s t e = ap (λ h. pieces h (second_of t)) e

-- no second piece, or one with the head k
pub second_none : (h : Code.Option Head) (t : List ℕ) → length t ≡ 0 → pieces h none ≡ pieces h (second_of t)
second_none h t e = rw e refl

pub second_some : (h k : Code.Option Head) (t : List ℕ) → (length t ≡ 0 → ⊥) → k ≡ head_of t → pieces h (some k) ≡ pieces h (second_of t)
second_some h k t n e = rw (ne_eqb (length t) 0 n, e) refl

-- after a list, and after a graph
module _ (list b : Bool) (q : list ≡ b) (t : List ℕ) where
  pub after_none : length t ≡ 0 → pieces (head_for b 0) none ≡ kinds_after list t
  after_none e = second_none (head_for b 0) t e ∙ sym (ap (λ l. kinds_after l t) q)

  pub after_some : (k : Code.Option Head) → (length t ≡ 0 → ⊥) → k ≡ head_of t → pieces (head_for b 0) (some k) ≡ kinds_after list t
  after_some k n e = second_some (head_for b 0) k t n e ∙ sym (ap (λ l. kinds_after l t) q)

pub after_off : (list : Bool) → Err (refused Reasons.Head 0) ≡ pieces (head_for list 0) (some None)
unfolding pieces
after_off true = refl
after_off false = refl

pub after_list : (list : Bool) (n : ℕ) → Err (refused Reasons.Claim 0) ≡ pieces (head_for list 0) (some (Some (RefutationOf n)))
unfolding pieces
after_list true n = refl
after_list false n = refl

-- ---- the code's tests are the claim's
half : (l : ℕ) → l / 2 ≡ entry_of (literal l)
half l = go (literal l) (code_literal l)
  where
    go : (x : Literal) → code x ≡ l → l / 2 ≡ entry_of x
    go (pos n) e = omega arith
    go (neg n) e = omega arith

-- kinds that fit no answer are of no record
abbrev place_of : Result Pieces Refusals.Refusal → ℕ
place_of (Ok p) = 0
place_of (Err r) = r.place

kinds_whole : (h : Code.Option Head) (o : Option (Code.Option Head)) → place_of (pieces h o) ≡ 0
unfolding pieces
kinds_whole None o = refl
kinds_whole (Some (GraphOf n)) none = refl
kinds_whole (Some (GraphOf n)) (some None) = refl
kinds_whole (Some (GraphOf n)) (some (Some (GraphOf m))) = refl
kinds_whole (Some (GraphOf n)) (some (Some (RefutationOf m))) = refl
kinds_whole (Some (RefutationOf n)) none = refl
kinds_whole (Some (RefutationOf n)) (some None) = refl
kinds_whole (Some (RefutationOf n)) (some (Some (GraphOf m))) = refl
kinds_whole (Some (RefutationOf n)) (some (Some (RefutationOf m))) = refl

-- what refuses is told, whatever the pieces would show
told_refused : (w : Word) (u : Result Judgement Refusals.Refusal) (r : Refusals.Refusal) (o : Option Refusal) → u ≡ Err r → some (numbered r) ≡ o → of_judgement u ≡ answer w o
told_refused w u r o e h = rw (e, ← h) refl

module _ (b : Bool) (a : List ℕ) (m : ℕ) (cs qs : List ℕ) (c d : ℕ) (s t : List ℕ) where
  module _ (u : Result Judgement Refusals.Refusal) (r : Refusals.Refusal) (told : u ≡ Err r) where
    -- 24 of the literals refuses
    pub literals_stop : some (numbered r) ≡ wholly (literals_code cs c d) → of_judgement u ≡ opened_claim b a m cs qs c d s t
    unfolding opened_claim
    literals_stop e = told_refused _ u r _ told (sym (refuse_some 0 (literals_code cs c d) _ _ (sym e)))

    -- the kinds do
    pub kinds_stop : none ≡ wholly (literals_code cs c d) → Err r ≡ pieces_of s t → of_judgement u ≡ opened_claim b a m cs qs c d s t
    unfolding opened_claim
    kinds_stop fine e = rw (← e) (told_refused _ u r _ told (ap (λ p. some (record { number = number_of r.reason; place = p })) (ap place_of e ∙ kinds_whole (head_of s) (second_of t))
        ∙ sym (refuse_none 0 (literals_code cs c d) _ (sym fine))))

    -- a piece does
    pub pieces_stop : none ≡ wholly (literals_code cs c d) → (p : Pieces) → Ok p ≡ pieces_of s t → some (numbered r) ≡ pieces_code b a m cs qs c d s t (Ok p)
        → of_judgement u ≡ opened_claim b a m cs qs c d s t
    unfolding opened_claim
    pieces_stop fine p q e = rw (← q) (told_refused _ u r _ told (e ∙ sym (refuse_none 0 (literals_code cs c d) _ (sym fine))))

  -- nothing refuses
  pub pieces_pass : none ≡ wholly (literals_code cs c d) → (p : Pieces) → Ok p ≡ pieces_of s t → none ≡ pieces_code b a m cs qs c d s t (Ok p)
      → answer (shows (Ok p)) none ≡ opened_claim b a m cs qs c d s t
  unfolding opened_claim
  pieces_pass fine p q e = rw (← q) (ap (answer (shows (Ok p))) (e ∙ sym (refuse_none 0 (literals_code cs c d) _ (sym fine))))

-- ---- for an accepted description these are the tests of a claim
module _ (rs cs qs : List ℕ) (o : Option (List ℕ)) (a : List ℕ) (c d : ℕ) (s t : List ℕ) (masks : MasksOf rs (records_in o) a)
    (fine : parts_test rs cs qs o ≡ none) where
  abbrev D : Description
  D = describe rs cs qs o

  literals_are : (in_table cs c && in_table cs d) ≡ (literal_test D (literal c) && literal_test D (literal d))
  literals_are = rw (half c, half d) refl

  module _ (c-in : entry_of (literal c) < length cs / 6) (d-in : entry_of (literal d) < length cs / 6) where
    few : length cs / 6 ≤ most_entries
    few = (parts_accepted rs cs qs o fine).1

    -- C put into a set, and the two sets that are wanted
    put_c : (N : ℕ) → label_with N c ≡ adding N (literal c)
    put_c N = put_is (length cs / 6) N c few c-in

    subject_set : label_with 0 c ≡ literal_set (subject c)
    unfolding literal_set
    subject_set = put_c 0

    counter_set_lem : counter_set c d ≡ literal_set (counterexample c d)
    unfolding literal_set
    counter_set_lem = let e = literal_code (opposite (literal d)) in
        ap (λ N. label_with N c)
        (put_is (length cs / 6) 0 (opposed d) few (rw (e, entry_of_opposite (literal d)) d-in) ∙ ap (adding 0) e) ∙ put_c _

    list : (W : List Literal) (N : ℕ) (x : List ℕ) → N ≡ literal_set W → list_code (is_there o) a cs qs N x ≡ list_tests D W x
    list W N x e = let k = parts_accepted rs cs qs o fine in ap (λ M. list_code (is_there o) a cs qs M x) e ∙ list_is rs cs qs o a W x masks k.0 k.1 k.2 k.3

    graph : (W : List Literal) (N : ℕ) (x : List ℕ) → N ≡ literal_set W → graph_code a (role_count rs) cs qs N x ≡ graph_tests D W x
    graph W N x e = ap (λ M. graph_code a (role_count rs) cs qs M x) e ∙ graph_is rs cs qs o a W x masks fine

    pieces_are : (p : Result Pieces Refusals.Refusal) → pieces_code (is_there o) a (role_count rs) cs qs c d s t p ≡ pieces_tests D c d s t p
    pieces_are (Ok ListAndGraph) = ap₂ first_of (list (counterexample c d) _ s counter_set_lem) (graph (subject c) _ t subject_set)
    pieces_are (Ok GraphAlone) = graph (counterexample c d) _ s counter_set_lem
    pieces_are (Ok ListAlone) = list (subject c) _ s subject_set
    pieces_are (Err r) = refl

  rest_is : (p : Result Pieces Refusals.Refusal) → refuse 0 (literals_code cs c d) (refuse 0 (kinds_refusal p) (pieces_code (is_there o) a (role_count rs) cs qs c d s t p))
      ≡ refuse 0 (claim_test D c d) (refuse 0 (kinds_refusal p) (pieces_tests D c d s t p))
  rest_is p = ap (λ b. refuse 0 (unless b 24 none) (refuse 0 (kinds_refusal p) (pieces_code (is_there o) a (role_count rs) cs qs c d s t p))) literals_are
      ∙ refuse_then 0 (claim_test D c d) _ _ (λ e. let h = ((unless↔ _ 24 none).0 e).0 in
      let c-in = so_ltb _ _ (and_l _ _ h) in let d-in = so_ltb _ _ (and_r (literal_test D (literal c)) _ h) in
      ap (refuse 0 (kinds_refusal p)) (pieces_are c-in d-in p))

-- ---- the description comes first
module _ (x : List ℕ) (c d : ℕ) (s t : List ℕ) where
  pub claim_refused_lem : (u : Result Judgement Refusals.Refusal) (r : Refusals.Refusal) → u ≡ Err r → some (numbered r) ≡ wholly (bytes_test x)
      → of_judgement u ≡ claim_answer x c d s t
  unfolding claim_answer
  claim_refused_lem u r k e = told_refused _ u r _ k (sym (refuse_some 0 (bytes_test x) _ _ (sym e)))

  pub claim_opened : (b : Bool) (a : List ℕ) (m : ℕ) (cs qs : List ℕ) → none ≡ wholly (bytes_test x)
      → MasksOf (roles_part x) (records_in (disjoint_part x)) a → m ≡ role_count (roles_part x) → cs ≡ concepts_part x → qs ≡ query_part x → b ≡ four x
      → opened_claim b a m cs qs c d s t ≡ claim_answer x c d s t
  unfolding claim_answer opened_claim
  claim_opened b a m cs qs e masks k p q f = rw (k, p, q, f ∙ sym (four_there x)) (ap (answer (shows (pieces_of s t)))
      (rest_is (roles_part x) (concepts_part x) (query_part x) (disjoint_part x) a c d s t masks (parts_fine x (sym (wholly_none (bytes_test x) e))) (pieces_of s t)
      ∙ sym (refuse_none 0 (bytes_test x) _ (sym e))))
