-- Tests 1 to 8 and 26 on the bytes of a description (01, "The description" and "Table of refusals"; 02, job 5; FORMAT 2, 3).
use Rattle.std.specs.Prelude.{ℕ, ◌+◌, ◌*◌, ◌/◌, ◌%◌, ◌≤◌, ◌<◌, ◌≡◌, refl, ◌↔◌, Bool, false, ◌&&◌, List, eqb, leb, length}
use Rattle.std.proofs.Math.Option.{Option, none}
use Rattle.std.proofs.Common.{arith}
use Rattle.logic.specs.Tests.{So, so_leb, leb_so, reading}
use Rattle.logic.specs.Refusals.{unless, unless↔}
use Rattle.parts.specs.Numbers.{byte_at}
use Rattle.parts.specs.Pairs.{fills, Fills, fills↔}
use Rattle.description.specs.Descriptions.{Description, fields_of, entry_of_fields, same_fields, same_fields↔}
use Rattle.description.specs.Acceptance.{Accepted, description_tests}
use Rattle.description.proofs.Acceptance.{formed↔}
use Rattle.tables.specs.Tables.{fields_at, records_in, describe}
use Rattle.labels.specs.Labels.{most_entries}
use Rattle.directory.specs.Directory.{four, pair_count, directory_test, roles_part, concepts_part, query_part, disjoint_part}

-- the description that the bytes are
abbrev pub described : List ℕ → Description
described d = describe (roles_part d) (concepts_part d) (query_part d) (disjoint_part d)

-- with three pairs all is as it was before there was a fourth
pub three_pairs : (d : List ℕ) → four d ≡ false
    → (directory_test d ≡ fills d 0 3 12) × (disjoint_part d ≡ none) × (described d ≡ describe (roles_part d) (concepts_part d) (query_part d) none)
three_pairs d e = (rw e refl, rw e refl, rw e refl)

-- ---- 2: the parts
abbrev pub most_roles : ℕ
most_roles = 16

abbrev pub most_rules : ℕ
most_rules = 16

abbrev pub most_disjoints : ℕ
most_disjoints = 16

-- a part of 1 to `most` records of `size` bytes
abbrev pub Records : ℕ → ℕ → List ℕ → Type 0
Records size most s = (length s % size ≡ 0) × ((size ≤ length s) × (length s ≤ size * most))

abbrev pub records_test : ℕ → ℕ → List ℕ → Bool
records_test size most s = eqb (length s % size) 0 && (leb size (length s) && leb (length s) (size * most))

-- the fourth part may have no record
unfoldable pub sizes_test : List ℕ → List ℕ → List ℕ → List ℕ → Bool
sizes_test rs cs qs ps = records_test 3 most_roles rs && (records_test 6 most_entries cs
    && ((leb 1 (length qs) && leb (length qs) (1 + most_rules)) && (eqb (length ps % 2) 0 && leb (length ps) (2 * most_disjoints))))

pub sizes_few : (rs cs qs ps : List ℕ) → So (sizes_test rs cs qs ps)
    → (length rs / 3 ≤ most_roles) × (1 ≤ length qs) × (length cs / 6 ≤ most_entries) × (length ps / 2 ≤ most_disjoints)
unfolding sizes_test
sizes_few rs cs qs ps h = let t = simp reading at h in (omega arith, omega arith, omega arith, omega arith)

-- ---- what bytes add to 3 and 4
abbrev pub role_form : List ℕ → ℕ → Bool
role_form rs r = leb (byte_at rs (3 * r)) 1

-- the fields are those of an entry
abbrev pub entry_form : List ℕ → ℕ → Bool
entry_form cs e = same_fields (fields_at cs e) (fields_of (entry_of_fields (fields_at cs e)))

-- ---- all tests
unfoldable pub parts_test : List ℕ → List ℕ → List ℕ → Option (List ℕ) → Option ℕ
parts_test rs cs qs p = unless (sizes_test rs cs qs (records_in p)) 2 (description_tests (role_form rs) (entry_form cs) (describe rs cs qs p))

-- parts that 2 to 8 and 26 accept
abbrev pub AcceptedParts : List ℕ → List ℕ → List ℕ → Option (List ℕ) → Type 0
AcceptedParts rs cs qs p = (length rs / 3 ≤ most_roles) × (length cs / 6 ≤ most_entries) × Accepted (describe rs cs qs p) × (length (records_in p) / 2 ≤ most_disjoints)

pub parts_accepted : (rs cs qs : List ℕ) (p : Option (List ℕ)) → parts_test rs cs qs p ≡ none → AcceptedParts rs cs qs p
unfolding parts_test sizes_test
parts_accepted rs cs qs p e =
    let w = (unless↔ (sizes_test rs cs qs (records_in p)) 2 (description_tests (role_form rs) (entry_form cs) (describe rs cs qs p))).0 e in
    let t = simp reading at w.0 in
    (omega arith, omega arith, ((formed↔ (role_form rs) (entry_form cs) (describe rs cs qs p)).0 (omega arith, (omega arith, w.1))).0, omega arith)

unfoldable pub bytes_test : List ℕ → Option ℕ
bytes_test d = unless (directory_test d) 1 (parts_test (roles_part d) (concepts_part d) (query_part d) (disjoint_part d))

-- what an accepted description keeps, byte by byte
pub record AcceptedBytes (d : List ℕ) : Type 0 where
  pub directory : Fills d 0 (pair_count d) (4 * pair_count d)
  pub roles : Records 3 most_roles (roles_part d)
  pub concepts : Records 6 most_entries (concepts_part d)
  pub query : (1 ≤ length (query_part d)) × (length (query_part d) ≤ 1 + most_rules)
  pub disjoint : (length (records_in (disjoint_part d)) % 2 ≡ 0) × (length (records_in (disjoint_part d)) ≤ 2 * most_disjoints)
  pub transitive_bytes : (r : ℕ) → r < (described d).roles → byte_at (roles_part d) (3 * r) ≤ 1
  pub fields_used : (e : ℕ) → e < (described d).entries → fields_at (concepts_part d) e ≡ fields_of ((described d).entry e)
  pub accepted : Accepted (described d)

-- refused by none of 1 to 8 and 26 exactly if accepted
pub accepted_bytes↔ : (d : List ℕ) → (bytes_test d ≡ none) ↔ AcceptedBytes d
unfolding bytes_test parts_test sizes_test
accepted_bytes↔ d = simp (unless↔, reading, fills↔) (
  λ t. let w = (formed↔ (role_form (roles_part d)) (entry_form (concepts_part d)) (described d)).0
      (omega arith, (omega arith, t.1.1)) in record {
        directory = t.0;
        roles = t.1.0.0;
        concepts = t.1.0.1.0;
        query = t.1.0.1.1.0;
        disjoint = t.1.0.1.1.1;
        transitive_bytes = λ r h. so_leb _ _ (w.1.0 r h);
        fields_used = λ e h. (same_fields↔ _ _).0 (w.1.1 e h);
        accepted = w.0;
      },
  λ k. (
    k.directory,
    (
      (k.roles, (k.concepts, (k.query, k.disjoint))),
      ((formed↔ (role_form (roles_part d)) (entry_form (concepts_part d)) (described d)).1
          (k.accepted, (λ r h. leb_so _ _ (k.transitive_bytes r h), λ e h. (same_fields↔ _ _).1 (k.fields_used e h)))).1.1,
    ),
  ),
)

-- the sizes as numbers of roles, entries, rules and records of the fourth part
pub accepted_sizes : (d : List ℕ) → AcceptedBytes d → (1 ≤ (described d).roles) × ((described d).roles ≤ most_roles)
    × (1 ≤ (described d).entries) × ((described d).entries ≤ most_entries) × ((described d).rules ≤ most_rules) × ((described d).disjoints ≤ most_disjoints)
accepted_sizes d k = let r = k.roles in let c = k.concepts in let q = k.query in let p = k.disjoint in
    (omega arith, omega arith, omega arith, omega arith, omega arith, omega arith)
