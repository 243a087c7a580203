-- The answer that tests of the pieces end in, whatever kinds they are.
use Rattle.std.specs.Prelude.{ℕ, ◌≡◌, refl, Bool, List, Result, Ok, Err}
use Rattle.std.proofs.Common.{sym, ◌∙◌, ap}
use Rattle.std.proofs.Math.Option.{Option, none, some}
use Rattle.logic.specs.Refusals.{Refusal, refuse, first_of, refuse_some, refuse_none}
use Rattle.labels.specs.Labels.{label_with}
use Rattle.graph_check.specs.GraphSteps.{graph_code}
use Rattle.list_check.specs.CheckSteps.{list_code}
use Rattle.answers.specs.declared.Refusal as Refusals
use Rattle.answers.specs.Answers.{Answer, answer, wholly, HOLDS, FAILS, HOLDS_OF_NOTHING}
use Rattle.claims.specs.declared.Pieces.{Pieces}
use Rattle.claims.specs.declared.Pieces.TheVariants.{ListAndGraph, GraphAlone, ListAlone}
use Rattle.claims.specs.Claims.{pieces_of, kinds_refusal, shows}
use Rattle.claims.specs.ClaimSteps.{counter_set, literals_code, pieces_code, opened_claim}

-- the answer that tests of the pieces end in
abbrev pub ends_in : Result Pieces Refusals.Refusal → Option Refusal → Answer
ends_in p o = answer (shows p) (first_of o (wholly (kinds_refusal p)))

-- of two tests and the rest, the first two taken together
pub first_two : (o x : Option ℕ) (later : Option Refusal) → first_of (refuse 0 o (wholly x)) later ≡ refuse 0 o (refuse 0 x later)
first_two none none later = refl
first_two none (some m) later = refl
first_two (some n) x later = refl

-- nothing after
pub first_none : (o : Option Refusal) → first_of o none ≡ o
first_none none = refl
first_none (some z) = refl

-- kinds that fit no answer are refused, whatever is asked of the pieces
pub ends_by_kind : (f : Result Pieces Refusals.Refusal → Option Refusal) → ((r : Refusals.Refusal) → f (Err r) ≡ none) → (p : Result Pieces Refusals.Refusal)
    → ends_in p (f p) ≡ answer (shows p) (refuse 0 (kinds_refusal p) (f p))
ends_by_kind f m (Ok ListAndGraph) = ap (answer HOLDS) (first_none (f (Ok ListAndGraph)))
ends_by_kind f m (Ok GraphAlone) = ap (answer FAILS) (first_none (f (Ok GraphAlone)))
ends_by_kind f m (Ok ListAlone) = ap (answer HOLDS_OF_NOTHING) (first_none (f (Ok ListAlone)))
ends_by_kind f m (Err r) = rw (m r) refl

module _ (b : Bool) (a : List ℕ) (m : ℕ) (cs qs : List ℕ) (c d : ℕ) (s t : List ℕ) (p : Result Pieces Refusals.Refusal) (q : p ≡ pieces_of s t) where
  abbrev pub coded : Result Pieces Refusals.Refusal → Option Refusal
  coded p = refuse 0 (kinds_refusal p) (pieces_code b a m cs qs c d s t p)

  pub joined : answer (shows p) (refuse 0 (literals_code cs c d) (coded p)) ≡ opened_claim b a m cs qs c d s t
  unfolding opened_claim
  joined = ap (λ p. answer (shows p) (refuse 0 (literals_code cs c d) (coded p))) q

  -- 24 of the literals refuses
  pub literals_stop : (z : Refusal) → wholly (literals_code cs c d) ≡ some z → ends_in p (some z) ≡ opened_claim b a m cs qs c d s t
  literals_stop z e = sym (ap (answer (shows p)) (refuse_some 0 (literals_code cs c d) (coded p) z e)) ∙ joined

  -- it does not, and the pieces come to o
  pub pieces_end : wholly (literals_code cs c d) ≡ none → (o : Option Refusal) → o ≡ pieces_code b a m cs qs c d s t p
      → ends_in p o ≡ opened_claim b a m cs qs c d s t
  pieces_end e o h = ap (ends_in p) h ∙ ends_by_kind (pieces_code b a m cs qs c d s t) (λ r. refl) p
      ∙ sym (ap (answer (shows p)) (refuse_none 0 (literals_code cs c d) (coded p) e)) ∙ joined

-- a list and then a graph: the list is refused, or it is not
module _ (b : Bool) (a : List ℕ) (m : ℕ) (cs qs : List ℕ) (c d : ℕ) (s t : List ℕ) (p : Result Pieces Refusals.Refusal) (q : p ≡ Ok ListAndGraph) where
  pub list_stops : (z : Refusal) → list_code b a cs qs (counter_set c d) s ≡ some z → some z ≡ pieces_code b a m cs qs c d s t p
  list_stops z e = rw (q, e) refl

  pub list_on : list_code b a cs qs (counter_set c d) s ≡ none → graph_code a m cs qs (label_with 0 c) t ≡ pieces_code b a m cs qs c d s t p
  list_on e = rw (q, e) refl
