-- Tests 9, 10 and 16 to 20 on the bytes of a list, and what it is to pass them (01, "Evidence" and "Table of refusals"; FORMAT 5, 8).
use Rattle.std.specs.Prelude.{ℕ, ◌<◌, ◌≡◌, Bool, ◌&&◌, List, eqb}
use Rattle.std.proofs.Math.Option.{Option, none}
use Rattle.logic.specs.Refusals.{Refusal, unless, refuse, refuse_from}
use Rattle.parts.specs.Numbers.{byte_at}
use Rattle.description.specs.Literals.{Literal}
use Rattle.description.specs.Descriptions.{Description}
use Rattle.evidence.specs.Evidence.{record_count, HeadOk, head_test, layout_of, record_at}
use Rattle.evidence.specs.declared.Layout.{Layout}
use Rattle.refutation.specs.Records.{Closes, RefutationFits}
use Rattle.refutation.specs.RecordTests.{stored_refutation, refutation_refusal}
use Rattle.lists.specs.Lists.{refutation_in, RecordForm, record_form_test}

-- 9: the head of a list
abbrev pub list_head : List ℕ → Bool
list_head s = head_test s && eqb (byte_at s 0) 2

-- 10, of record x
abbrev pub list_form : Layout → List ℕ → ℕ → Option ℕ
list_form f s x = unless (record_form_test f (record_at s x)) 10 none

-- 9; 10 of every record; then the rules of the refutation that the bytes are, where W is wanted
unfoldable pub list_tests : Description → List Literal → List ℕ → Option Refusal
list_tests D W s = let f = layout_of D in
    refuse 0 (unless (list_head s) 9 none) (refuse_from (list_form f s) (record_count s) 0 (refutation_refusal stored_refutation D W (refutation_in f s)))

-- the bytes have the form of a list, and the refutation that they are is within the limits and closes
pub record ListKept (D : Description) (W : List Literal) (s : List ℕ) : Type 0 where
  pub head : HeadOk s
  pub is_a_list : byte_at s 0 ≡ 2
  pub formed : (x : ℕ) → x < record_count s → RecordForm (layout_of D) (record_at s x)
  pub fits : RefutationFits stored_refutation (refutation_in (layout_of D) s)
  pub closes : Closes D W (refutation_in (layout_of D) s)
