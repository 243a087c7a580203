-- The tests of a description say what they should.
use Rattle.std.specs.Prelude.{ℕ, zero, suc, ◌≤◌, ◌<◌, ◌≡◌, refl, ◌↔◌, Bool, true}
use Rattle.std.proofs.Math.Logic.Iff
use Rattle.std.proofs.Math.Option.{none}
use Rattle.logic.specs.Tests.{So, reading}
use Rattle.logic.specs.Bounded.{below}
use Rattle.logic.specs.SetLaws.{narrow↔}
use Rattle.logic.specs.Refusals.{unless↔}
use Rattle.description.specs.Descriptions.{Entry, top, name, both, every, at_least, Description, kinds}
use Rattle.description.specs.Acceptance.{EntryOk, Accepted, entry_test, description_tests, description_refusal}

pub entry↔ : (D : Description) (e : ℕ) (x : Entry) → So (entry_test D e x) ↔ EntryOk D e x
unfolding entry_test
entry↔ D e top = simp reading Iff.rfl
entry↔ D e name = simp reading Iff.rfl
entry↔ D e (both a b) = simp reading Iff.rfl
entry↔ D e (every r l) = simp reading Iff.rfl
entry↔ D e (at_least r l n) = simp reading Iff.rfl

-- with a role and an entry, refused by none of 3 to 8 and 26 exactly if accepted and of the forms
pub formed↔ : (roleForm entryForm : ℕ → Bool) (D : Description)
    → ((1 ≤ D.roles) × ((1 ≤ D.entries) × (description_tests roleForm entryForm D ≡ none)))
    ↔ (Accepted D × (((r : ℕ) → r < D.roles → So (roleForm r)) × ((e : ℕ) → e < D.entries → So (entryForm e))))
unfolding description_tests
formed↔ roleForm entryForm D = simp (unless↔, below, kinds, narrow↔, entry↔) (
  λ (h1, (h2, t)). (
    record {
      some_role = h1;
      some_entry = h2;
      parents_in = λ r l. (t.0 r l).1;
      fields = λ e l. (t.1.0 e l).1;
      simples = t.1.1.0;
      distinct = t.1.1.1.0;
      everys_below = t.1.1.1.1.0;
      root_in = t.1.1.1.1.1.0.0;
      rules_inside = t.1.1.1.1.1.0.1;
      disjoints_ok = t.1.1.1.1.1.1.0;
    },
    (λ r l. (t.0 r l).0, λ e l. (t.1.0 e l).0),
  ),
  λ (A, (f, g)). (
    A.some_role,
    (
      A.some_entry,
      (
        λ r l. (f r l, A.parents_in r l),
        (
          λ e l. (g e l, A.fields e l),
          (A.simples, (A.distinct, (A.everys_below, ((A.root_in, A.rules_inside), (A.disjoints_ok, refl))))),
        ),
      ),
    ),
  ),
)

-- lifted: exactly if accepted
pub accepted↔ : (D : Description) → ((1 ≤ D.roles) × ((1 ≤ D.entries) × (description_refusal D ≡ none))) ↔ Accepted D
accepted↔ D = (λ h. ((formed↔ (λ r. true) (λ e. true) D).0 h).0, λ A. (formed↔ (λ r. true) (λ e. true) D).1 (A, (λ r l. refl, λ e l. refl)))
