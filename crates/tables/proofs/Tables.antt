-- The test of an entry by its fields says what the rule says.
use Rattle.std.specs.Prelude.{ℕ, zero, suc, ◌*◌, ◌<◌, refl, ◌↔◌}
use Rattle.std.proofs.Common.{sym, subst}
use Rattle.std.proofs.lemmas.Bool.{false≢true}
use Rattle.logic.specs.Tests.{So, reading}
use Rattle.description.specs.Literals.{literal, entry_of, code_literal, code_entry}
use Rattle.description.specs.Descriptions.{Entry, top, name, both, every, at_least, Description, Fields, fields_of}
use Rattle.description.specs.Acceptance.{EntryOk}
use Rattle.tables.specs.Tables.{FieldsOk, field_test, fields_test}

made : ℕ → ℕ → ℕ → ℕ → ℕ → Fields
made k r a b n = record { kind = k; role = r; first = a; second = b; number = n }

-- a literal below 2e is of an entry below e
below_entry : (a e : ℕ) → a < 2 * e → entry_of (literal a) < e
below_entry a e h = (code_entry (literal a) e).0 (rw (code_literal a) h)

fields_out_lem : (D : Description) (e k r a b n : ℕ) → So (field_test D.roles e k r a b n) → FieldsOk D e (made k r a b n)
unfolding field_test made
fields_out_lem D e zero r a b n h = let t = simp reading at h in (top, rw (t.1.0, t.1.1.0, t.1.1.1.0, t.1.1.1.1) refl, t.0)
fields_out_lem D e (suc zero) r a b n h = let t = simp reading at h in (name, rw (t.1.0, t.1.1.0, t.1.1.1.0, t.1.1.1.1) refl, t.0)
fields_out_lem D e (suc (suc zero)) r a b n h = let t = simp reading at h in
    (both (literal a) (literal b), rw (code_literal a, code_literal b, t.0, t.1.1.1) refl, (below_entry a e t.1.0, below_entry b e t.1.1.0))
fields_out_lem D e (suc (suc (suc zero))) r a b n h = let t = simp reading at h in
    (every r (literal a), rw (code_literal a, t.1.1.0, t.1.1.1) refl, (t.0, below_entry a e t.1.0))
fields_out_lem D e (suc (suc (suc (suc zero)))) r a b n h = let t = simp reading at h in
    (at_least r (literal a) n, rw (code_literal a, t.1.1.0) refl, ((t.0, below_entry a e t.1.0), (t.1.1.1.0, t.1.1.1.1)))
fields_out_lem D e (suc (suc (suc (suc (suc k))))) r a b n h = absurd (false≢true h)

fields_in_lem : (D : Description) (e : ℕ) (x : Entry) → EntryOk D e x → So (fields_test D.roles e (fields_of x))
unfolding field_test
fields_in_lem D e top o = simp reading (o, (refl, (refl, (refl, refl))))
fields_in_lem D e name o = simp reading (o, (refl, (refl, (refl, refl))))
fields_in_lem D e (both a b) o = simp reading (refl, ((code_entry a e).1 o.0, ((code_entry b e).1 o.1, refl)))
fields_in_lem D e (every r l) o = simp reading (o.0, ((code_entry l e).1 o.1, (refl, refl)))
fields_in_lem D e (at_least r l n) o = simp reading (o.0.0, ((code_entry l e).1 o.0.1, (refl, o.1)))

pub fields↔ : (D : Description) (e : ℕ) (F : Fields) → So (fields_test D.roles e F) ↔ FieldsOk D e F
unfolding made
fields↔ D e F = (
  λ h. fields_out_lem D e F.kind F.role F.first F.second F.number h,
  λ w. subst (λ G. So (fields_test D.roles e G)) (sym w.1) (fields_in_lem D e w.0 w.2),
)
