-- A row of a true literal is met.
use Rattle.std.specs.Prelude.{ℕ, zero, suc, ◌-◌, ◌≤◌, ◌<◌, ◌≡◌, refl, Bool, true, false, ◌&&◌}
use Rattle.std.proofs.Common.{arith}
use Rattle.std.proofs.lemmas.Bool.{false≢true}
use Rattle.std.proofs.Math.Decide.{dec_le}
use Rattle.logic.specs.Tests.{So, not_so}
use Rattle.logic.specs.Sums.{count_below}
use Rattle.counting.specs.Trees.{Meets}
use Rattle.description.specs.Literals.{Literal, pos, neg, entry_of}
use Rattle.description.specs.Descriptions.{Entry, top, name, both, every, at_least, Description}
use Rattle.description.specs.Acceptance.{Accepted}
use Rattle.interpretation.specs.Meaning.{Interpretation, holds}
use Rattle.interpretation.specs.Models.{least_true}
use Rattle.interpretation.proofs.Models.{every_false}
use Rattle.refutation.specs.Cells.{Row, positive_row, negative_row, row_of, is_row, row_from}

-- the fillers of x that count in a row
abbrev pub in_row : Description → Interpretation → ℕ → Row → ℕ → Bool
in_row D I x R y = I.role R.role x y && holds D I R.qualifier y

-- a row of a true literal is met by the fillers that count in it
pub row_met : (D : Description) → Accepted D → (I : Interpretation) (x : ℕ) (l : Literal) → entry_of l < D.entries → So (is_row (row_of D l)) → So (holds D I l x)
    → Meets (row_from (row_of D l)).side (row_from (row_of D l)).bound (count_below I.size (in_row D I x (row_from (row_of D l))))
row_met D A I x (pos e) h r t = go (D.entry e) refl r
  where
    go : (k : Entry) → D.entry e ≡ k → So (is_row (positive_row k))
        → Meets (row_from (positive_row k)).side (row_from (positive_row k)).bound (count_below I.size (in_row D I x (row_from (positive_row k))))
    go (at_least s l n) q r = (least_true D A I e x s l n h q).0 t
    go top q r = absurd (false≢true r)
    go name q r = absurd (false≢true r)
    go (both a b) q r = absurd (false≢true r)
    go (every s l) q r = absurd (false≢true r)
row_met D A I x (neg e) h r t = go (D.entry e) refl r
  where
    go : (k : Entry) → D.entry e ≡ k → So (is_row (negative_row k))
        → Meets (row_from (negative_row k)).side (row_from (negative_row k)).bound (count_below I.size (in_row D I x (row_from (negative_row k))))
    go (every s l) q r = every_false D A I e x s l h q (not_so _ t)
    go (at_least s l n) q r = few (dec_le n (count_below I.size (λ y. I.role s x y && holds D I l y)))
      where
        few : Dec (n ≤ count_below I.size (λ y. I.role s x y && holds D I l y)) → count_below I.size (λ y. I.role s x y && holds D I l y) ≤ n - 1
        few (yes g) = absurd (not_so _ t ((least_true D A I e x s l n h q).1 g))
        few (no g) = omega arith
    go top q r = absurd (false≢true r)
    go name q r = absurd (false≢true r)
    go (both a b) q r = absurd (false≢true r)
