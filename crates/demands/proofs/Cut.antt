-- Evidence of more than 131,070 bytes is answered as its first 131,071 bytes are: no pairs fill either (01, "Evidence"; the numbers of a pair have two bytes).
use Rattle.std.specs.Prelude.{ℕ, zero, suc, ◌+◌, ◌*◌, ◌≤◌, ◌<◌, ◌≡◌, Bool, List}
use Rattle.std.proofs.Math.Path.{refl, ap}
use Rattle.std.proofs.Common.{sym, arith, take_all}
use Rattle.std.proofs.Math.Bool.{true, false, cond}
use Rattle.std.proofs.Math.Option.{Option, some}
use Rattle.std.proofs.Math.Decide.{dec_lt}
use Rattle.std.proofs.Math.ListN.{length, length-take, get_or-eq_default}
use Rattle.std.proofs.Math.Seq.{get_or-take}
use Rattle.logic.specs.Tests.{so_false}
use Rattle.logic.specs.Refusals.{Refusal}
use Rattle.parts.specs.Numbers.{byte_at}
use Rattle.parts.specs.Pairs.{begin_at}
use Rattle.description.specs.Descriptions.{Description}
use Rattle.intake.specs.Intake.{described}
use Rattle.evidence.specs.Evidence.{record_count, head_test, head↔}
use Rattle.graph_check.specs.GraphEvidence.{graph_tests}
use Rattle.lists.specs.ListEvidence.{list_tests}
use Rattle.laying.specs.Places.{Small, small_at}
use Rattle.verdict.specs.Verdict.{is_list, evidence_tests, verdict}
use Rattle.demands.specs.Cut.{farthest, cut}

-- 9: the last pair does not reach the end
module _ (s : List ℕ) (bytes : (p : ℕ) → byte_at s p < 256) (long : farthest < length s) where
  short_of : (n : ℕ) → 1 ≤ n → begin_at s 2 (2 + 4 * record_count s) n ≤ farthest
  short_of zero h = absurd (omega arith)
  short_of (suc i) h = let p = 2 + 4 * i in omega (arith, bytes p, bytes (p + 1), bytes (p + 2), bytes (p + 2 + 1))

  head_off : head_test s ≡ false
  head_off = so_false (head_test s) (λ h. let k = (head↔ s).0 h in omega (arith, k.1.1.1.1.1, short_of (record_count s) k.1.0))

  -- so 9 refuses, of either kind
  tests_off : (D : Description) → evidence_tests D s ≡ some (record { number = 9; place = 0 })
  unfolding graph_tests list_tests
  tests_off D = rw head_off (either (is_list s) (some (record { number = 9; place = 0 })))
    where
      either : (b : Bool) (x : Option Refusal) → cond b x x ≡ x
      either true x = refl
      either false x = refl

module _ (s : List ℕ) (small : Small s) where
  cut_bytes : (p : ℕ) → byte_at (cut s) p < 256
  cut_bytes p = elim (dec_lt p (suc farthest)) [
    | yes l ↦ rw (get_or-take (suc farthest) s p 0 l) (small_at small p)
    | no l ↦ (let z : length (cut s) ≤ p = omega (arith, length-take (suc farthest) s) in rw (get_or-eq_default (cut s) 0 z) (omega arith))
  ]

  pub cut_answers : (d : List ℕ) → verdict d s ≡ verdict d (cut s)
  unfolding verdict
  cut_answers d = elim (dec_lt farthest (length s)) [
    | no l ↦ ap (verdict d) (sym (take_all (suc farthest) s (omega arith)))
    | yes l ↦ (let z : farthest < length (cut s) = omega (arith, length-take (suc farthest) s) in
        rw (tests_off s (small_at small) l (described d), tests_off (cut s) cut_bytes z (described d), get_or-take (suc farthest) s 0 0 (omega arith)) refl)
  ]
