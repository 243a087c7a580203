-- Laws of the refutation that evidence is.
use Rattle.std.specs.Prelude.{ℕ, ◌<◌, ◌≡◌, refl, ◌↔◌, Bool, true, false, List, leb, length, drop}
use Rattle.std.proofs.lemmas.Bool.{false≢true}
use Rattle.std.proofs.Math.Option.{Option, none, some, none-ne-some}
use Rattle.logic.specs.Tests.{So, so_and, and_l, and_r, so_leb, leb_so}
use Rattle.logic.specs.Lists.{length_tabulate, at_tabulate}
use Rattle.labels.specs.Labels.{label_bytes, num8, num16, label_in}
use Rattle.evidence.specs.declared.Layout.{Layout}
use Rattle.evidence.specs.Evidence.{record_count, label_size}
use Rattle.evidence.specs.Evidence as Bytes
use Rattle.description.specs.Literals.{pos}
use Rattle.refutation.specs.Records.{Step, contradiction, record_at}
use Rattle.list_form.specs.ListForm.{step_in}
use Rattle.list_form.specs.FormSteps.{formed}
use Rattle.lists.specs.Lists.{step_from, step_behind, record_in, refutation_in, RecordForm, record_form_test}

pub refutation_size : (f : Layout) (s : List ℕ) → length (refutation_in f s) ≡ record_count s
refutation_size f s = length_tabulate (record_count s) (λ i. record_in f (Bytes.record_at s i))

pub record_at_lem : (f : Layout) (s : List ℕ) (x : ℕ) → x < record_count s → record_at (refutation_in f s) x ≡ record_in f (Bytes.record_at s x)
record_at_lem f s x h = at_tabulate (record_count s) (λ i. record_in f (Bytes.record_at s i)) (record { label = 0; step = contradiction (pos 0) }) x h

formed↔ : (o : Option Step) → So (formed o) ↔ ((x : Step) × (o ≡ some x))
formed↔ none = (λ h. absurd (false≢true h), λ h. absurd (none-ne-some h.0 h.1))
formed↔ (some x) = (λ h. (x, refl), λ h. refl)

pub record_form↔ : (f : Layout) (r : List ℕ) → So (record_form_test f r) ↔ RecordForm f r
unfolding record_form_test
record_form↔ f r = (
  λ h. (so_leb (label_size f) (length r) (and_l _ _ h), (formed↔ (step_behind f r)).0 (and_r (leb (label_size f) (length r)) _ h)),
  λ h. so_and _ _ (leb_so (label_size f) (length r) h.0) ((formed↔ (step_behind f r)).1 h.1),
)

-- a record at each width
pub narrow_record : (b : Bool) (r : List ℕ)
    → record_in (record { wide = false; marks = b }) r ≡ record { label = num8 r 0; step = step_from (step_in b (drop 8 r)) }
unfolding label_in label_bytes
narrow_record b r = refl

pub wide_record : (b : Bool) (r : List ℕ)
    → record_in (record { wide = true; marks = b }) r ≡ record { label = num16 r 0; step = step_from (step_in b (drop 16 r)) }
unfolding label_in label_bytes
wide_record b r = refl
