-- The description that its parts are: roles, concepts, query and, where there is a fourth, roles that never share a filler (FORMAT 2).
use Rattle.std.specs.Prelude.{ℕ, zero, suc, ◌+◌, ◌-◌, ◌*◌, ◌/◌, ◌≡◌, refl, Bool, true, false, ◌&&◌, List, [], eqb, leb, ltb, length}
use Rattle.std.proofs.Common.{arith}
use Rattle.std.proofs.Math.Option.{Option, none, some}
use Rattle.parts.specs.Numbers.{byte_at, num2, up_to}
use Rattle.labels.specs.Labels.{most_entries}
use Rattle.description.specs.Literals.{literal}
use Rattle.description.specs.Descriptions.{Entry, Disjoint, Description, Fields, fields_of, entry_of_fields}
use Rattle.description.specs.Acceptance.{greatest_number, EntryOk}

-- the number of entries of the part cs, at most the most that a table has
abbrev pub entry_count : List ℕ → ℕ
entry_count cs = up_to most_entries (length cs / 6)

-- the fields of entry e
abbrev pub fields_at : List ℕ → ℕ → Fields
fields_at cs e = record {
  kind = byte_at cs (6 * e);
  role = byte_at cs (6 * e + 1);
  first = byte_at cs (6 * e + 2);
  second = byte_at cs (6 * e + 3);
  number = num2 cs (6 * e + 4);
}

-- the records of the fourth part; with three parts there are none
abbrev pub records_in : Option (List ℕ) → List ℕ
records_in none = []
records_in (some ps) = ps

abbrev pub is_there : Option (List ℕ) → Bool
is_there none = false
is_there (some ps) = true

-- record i of two roles
abbrev pub disjoint_at : List ℕ → ℕ → Disjoint
disjoint_at ps i = record { one = byte_at ps (2 * i); other = byte_at ps (2 * i + 1) }

abbrev pub describe : List ℕ → List ℕ → List ℕ → Option (List ℕ) → Description
describe rs cs qs p = record {
  roles = length rs / 3;
  transitive = λ r. eqb (byte_at rs (3 * r)) 1;
  parents = λ r. num2 rs (3 * r + 1);
  entries = length cs / 6;
  entry = λ e. entry_of_fields (fields_at cs e);
  root = literal (byte_at qs 0);
  rules = length qs - 1;
  rule = λ i. literal (byte_at qs (i + 1));
  disjoints = length (records_in p) / 2;
  disjoint = disjoint_at (records_in p);
  fourth = is_there p;
}

-- a fourth part may have no record
pub empty_part : (rs cs qs : List ℕ) → ((describe rs cs qs (some [])).disjoints ≡ 0) × ((describe rs cs qs (some [])).fourth ≡ true)
empty_part rs cs qs = (refl, refl)

-- 4, on fields: they are the fields of an entry that keeps its rule, so the kind is known and unused fields are 0
abbrev pub FieldsOk : Description → ℕ → Fields → Type 0
FieldsOk D e F = (x : Entry) × (F ≡ fields_of x) × EntryOk D e x

-- the same as a test by kind, role, first, second, number: literals are below 2e, roles below the number of roles
unfoldable pub field_test : ℕ → ℕ → ℕ → ℕ → ℕ → ℕ → ℕ → Bool
field_test roles e zero r a b n = eqb e 0 && (eqb r 0 && (eqb a 0 && (eqb b 0 && eqb n 0)))
field_test roles e (suc zero) r a b n = ltb 0 e && (eqb r 0 && (eqb a 0 && (eqb b 0 && eqb n 0)))
field_test roles e (suc (suc zero)) r a b n = eqb r 0 && (ltb a (2 * e) && (ltb b (2 * e) && eqb n 0))
field_test roles e (suc (suc (suc zero))) r a b n = ltb r roles && (ltb a (2 * e) && (eqb b 0 && eqb n 0))
field_test roles e (suc (suc (suc (suc zero)))) r a b n = ltb r roles && (ltb a (2 * e) && (eqb b 0 && (leb 1 n && leb n greatest_number)))
field_test roles e (suc (suc (suc (suc (suc k))))) r a b n = false

abbrev pub fields_test : ℕ → ℕ → Fields → Bool
fields_test roles e F = field_test roles e F.kind F.role F.first F.second F.number

pub unknown_kind : (roles e k r a b n : ℕ) → (k ≡ 0 → ⊥) → (k ≡ 1 → ⊥) → (k ≡ 2 → ⊥) → (k ≡ 3 → ⊥) → (k ≡ 4 → ⊥) → field_test roles e k r a b n ≡ false
unfolding field_test
unknown_kind roles e k r a b n h0 h1 h2 h3 h4 = let z : k ≡ suc (suc (suc (suc (suc (k - 5))))) = omega arith in rw z refl
