-- A name by its kind, and the number of elements as the code reads it.
use Rattle.std.specs.Prelude.{ℕ, zero, suc, ◌+◌, ◌*◌, ◌≡◌, refl, Bool, ◌&&◌, List, eqb, leb, length}
use Rattle.std.proofs.Common.{arith, ne_eqb}
use Rattle.parts.specs.Numbers.{byte_at}
use Rattle.labels.specs.Labels.{name_bytes}
use Rattle.description.specs.Descriptions.{is_name, entry_from}
use Rattle.tables.specs.Concepts.{fields_struct}
use Rattle.tables.specs.declared.Fields as Code
use Rattle.lines.specs.Lines.{name_at, elements, most_elements}
use Rattle.line_reader.specs.LineSteps.{name_entry, size_test}

-- a name is told by its kind
pub name_kind : (cs : List ℕ) (e : ℕ) (f : Code.Fields) → f ≡ fields_struct cs e → eqb f.kind 1 ≡ name_entry cs e
unfolding entry_from
name_kind cs e f q = rw q (kind (byte_at cs (6 * e)) _ _ _ _)
  where
    kind : (k r a b n : ℕ) → eqb k 1 ≡ is_name (entry_from k r a b n)
    kind zero r a b n = refl
    kind (suc zero) r a b n = refl
    kind (suc (suc zero)) r a b n = refl
    kind (suc (suc (suc zero))) r a b n = refl
    kind (suc (suc (suc (suc k)))) r a b n = ne_eqb (suc (suc (suc (suc k)))) 1 (λ q. omega arith)

-- the tests of the number d of elements, whose names end at `at`
pub size_read : (broad : Bool) (s : List ℕ) (d at : ℕ) → d ≡ elements s → at ≡ name_at (name_bytes broad) d
    → (leb 1 d && (leb d most_elements && eqb (length s) (at + 2 * (d * d)))) ≡ size_test broad s
size_read broad s d at e q = rw (q, e) refl
