-- The role records in working memory (02, job 4): each role with its transitive byte and its parents, as the description has them, its
-- ancestors, and whether it is simple.
use Rattle.std.specs.Prelude.{ℕ, ◌+◌, ◌-◌, ◌*◌, ◌/◌, ◌≤◌, ◌<◌, ◌≡◌, refl, Bool, true, false, cond, ◌&&◌, List, eqb, ltb, length}
use Rattle.std.proofs.Math.Path.{sym, ap}
use Rattle.std.proofs.Common.{◌∙◌, ap₂, arith, lt-ltb, le-ltb, ext_get_or}
use Rattle.std.proofs.Math.Bool.{not}
use Rattle.std.proofs.Math.Option.{Option}
use Rattle.std.proofs.Math.Decide.{dec_lt}
use Rattle.std.proofs.Math.ListN.{get_or}
use Rattle.logic.specs.Tests.{not_not}
use Rattle.logic.specs.Bounded.{any_cong}
use Rattle.logic.specs.Lists.{tabulate, length_tabulate, at_tabulate}
use Rattle.logic.specs.Sums.{only}
use Rattle.logic.specs.Sets.{has}
use Rattle.logic.specs.SetLaws.{has_set_of, has_none, set_of_cong}
use Rattle.parts.specs.Numbers.{byte_at, num2, up_to, up_to_all, up_to_most}
use Rattle.description.specs.Descriptions.{compatible}
use Rattle.description.specs.Roles.{ancestor, anc_refl, simple}
use Rattle.description.specs.Acceptance.{Accepted}
use Rattle.tables.specs.Tables.{records_in, describe}
use Rattle.roles.specs.Ancestors.{ancestor_mask, AncestorsOf, role_count, passed, above_transitive, ancestor_masks, not_simple}
use Rattle.roles.specs.Disjoint.{disjoint_count, pair_mask, compatible_by, compatible_is}
use Rattle.roles.specs.declared.Role.{Role}

-- a record that is none, and record i of a table
abbrev pub no_role : Role
no_role = record { transitive = 0; parents = 0; ancestors = 0; simple = false }

abbrev pub role_at : List Role → ℕ → Role
role_at t i = get_or t i no_role

-- ---- the table of the part rs, for parts of every length
-- the ancestors of each role
abbrev pub ancestor_table : List ℕ → List ℕ
ancestor_table rs = tabulate 16 (passed rs (role_count rs))

-- the roles that are not simple
unfoldable pub complex_in : List ℕ → ℕ
complex_in rs = above_transitive rs (ancestor_table rs) (role_count rs)

abbrev pub record_with : List ℕ → ℕ → ℕ → ℕ → Role
record_with rs complex i above = record {
  transitive = byte_at rs (3 * i);
  parents = num2 rs (3 * i + 1);
  ancestors = above;
  simple = not (has complex i);
}

unfoldable pub role_record : List ℕ → ℕ → Role
role_record rs i = record_with rs (complex_in rs) i (passed rs (role_count rs) i)

unfoldable pub role_table : List ℕ → List Role
role_table rs = tabulate 16 (role_record rs)

-- ---- of at most 16 roles, the records are true: ancestors and simple are those of the description
module _ (rs : List ℕ) (t : List Role) (tab : t ≡ role_table rs) where
  record_at_lem : (i : ℕ) → i < 16 → role_at t i ≡ role_record rs i
  unfolding role_table
  record_at_lem i h = ap (λ t. role_at t i) tab ∙ at_tabulate 16 (role_record rs) no_role i h

  pub table_bytes : (i : ℕ) → i < 16 → (role_at t i).transitive ≡ byte_at rs (3 * i)
  unfolding role_record
  table_bytes i h = ap (λ R. R.transitive) (record_at_lem i h)

  pub table_parents : (i : ℕ) → i < 16 → (role_at t i).parents ≡ num2 rs (3 * i + 1)
  unfolding role_record
  table_parents i h = ap (λ R. R.parents) (record_at_lem i h)

  module _ (cs qs : List ℕ) (p : Option (List ℕ)) (few : length rs / 3 ≤ 16) (i : ℕ) (h : i < 16) where
    own_masks : AncestorsOf rs (ancestor_table rs)
    own_masks j k = at_tabulate 16 (passed rs (role_count rs)) 0 j k

    pub table_masks : (role_at t i).ancestors ≡ ancestor_mask (describe rs cs qs p) i
    unfolding role_record
    table_masks = ap (λ R. R.ancestors) (record_at_lem i h) ∙ sym (own_masks i h) ∙ ancestor_masks rs cs qs p (ancestor_table rs) own_masks few i h

    pub table_simple : (role_at t i).simple ≡ simple (describe rs cs qs p) i
    unfolding role_record complex_in
    table_simple = ap (λ R. R.simple) (record_at_lem i h) ∙ ap (λ m. not (has m i)) (not_simple rs (ancestor_table rs) cs qs p own_masks few)
        ∙ ap not (has_set_of 16 (λ s. not (simple (describe rs cs qs p) s)) i h) ∙ not_not (simple (describe rs cs qs p) i)

-- ---- the masks that evidence asks for
abbrev pub carrier : Role → ℕ
carrier R = only (eqb R.transitive 1) R.ancestors

-- at i the ancestors of role i; from 16 on those of each transitive role, none for the others; from 32 on the two roles of each record of
-- the part ps; at 48 the number of these records
abbrev pub mask_of : List Role → List ℕ → ℕ → ℕ
mask_of t ps i = cond (ltb i 16) (role_at t i).ancestors (cond (ltb i 32) (carrier (role_at t (i - 16))) (cond (ltb i 48) (pair_mask ps (i - 32)) (disjoint_count ps)))

unfoldable pub role_masks : List Role → List ℕ → List ℕ
role_masks t ps = tabulate 49 (mask_of t ps)

-- those of the parts rs and ps
abbrev pub MasksOf : List ℕ → List ℕ → List ℕ → Type 0
MasksOf rs ps m = m ≡ role_masks (role_table rs) ps

module _ (rs ps m : List ℕ) (masks : MasksOf rs ps m) where
  mask_at_lem : (i : ℕ) → i < 49 → get_or m i 0 ≡ mask_of (role_table rs) ps i
  unfolding role_masks
  mask_at_lem i h = ap (λ m. get_or m i 0) masks ∙ at_tabulate 49 (mask_of (role_table rs) ps) 0 i h

  pub masks_count : get_or m 48 0 ≡ disjoint_count ps
  masks_count = mask_at_lem 48 (omega arith)

  module _ (i : ℕ) (h : i < 16) where
    above_at : get_or m i 0 ≡ (role_record rs i).ancestors
    above_at = mask_at_lem i (omega arith) ∙ rw (lt-ltb i 16 h) (ap (λ R. R.ancestors) (record_at_lem rs (role_table rs) refl i h))

    carrier_at : get_or m (16 + i) 0 ≡ carrier (role_record rs i)
    carrier_at = mask_at_lem (16 + i) (omega arith) ∙ rw (le-ltb (16 + i) 16 (omega arith), lt-ltb (16 + i) 32 (omega arith))
        (let z : 16 + i - 16 ≡ i = omega arith in rw z (ap carrier (record_at_lem rs (role_table rs) refl i h)))

    pub masks_disjoint : get_or m (32 + i) 0 ≡ pair_mask ps i
    masks_disjoint = mask_at_lem (32 + i) (omega arith)
        ∙ rw (le-ltb (32 + i) 16 (omega arith), le-ltb (32 + i) 32 (omega arith), lt-ltb (32 + i) 48 (omega arith))
        (let z : 32 + i - 32 ≡ i = omega arith in ap (pair_mask ps) z)

    pub masks_plain : get_or m i 0 ≡ passed rs (role_count rs) i
    unfolding role_record
    masks_plain = above_at

    module _ (cs qs : List ℕ) (p : Option (List ℕ)) (few : length rs / 3 ≤ 16) where
      pub masks_above : get_or m i 0 ≡ ancestor_mask (describe rs cs qs p) i
      masks_above = above_at ∙ ap (λ R. R.ancestors) (sym (record_at_lem rs (role_table rs) refl i h))
          ∙ table_masks rs (role_table rs) refl cs qs p few i h

      pub masks_carried : get_or m (16 + i) 0 ≡ only ((describe rs cs qs p).transitive i) (ancestor_mask (describe rs cs qs p) i)
      masks_carried = carrier_at ∙ ap carrier (sym (record_at_lem rs (role_table rs) refl i h))
          ∙ ap₂ (λ b a. only (eqb b 1) a) (table_bytes rs (role_table rs) refl i h) (table_masks rs (role_table rs) refl cs qs p few i h)

      -- a role is among its own carriers exactly if it is transitive
      pub masks_transitive : has (get_or m (16 + i) 0) i ≡ (describe rs cs qs p).transitive i
      masks_transitive = ap (λ x. has x i) masks_carried ∙ go ((describe rs cs qs p).transitive i)
        where
          go : (b : Bool) → has (only b (ancestor_mask (describe rs cs qs p) i)) i ≡ b
          go true = has_set_of 16 (ancestor (describe rs cs qs p) i) i h ∙ anc_refl (describe rs cs qs p) i
          go false = has_none i

-- a set of roles is compatible with the records of an accepted description
pub masks_compatible : (rs cs qs : List ℕ) (p : Option (List ℕ)) (m : List ℕ) → MasksOf rs (records_in p) m → length rs / 3 ≤ 16
    → length (records_in p) / 2 ≤ 16 → Accepted (describe rs cs qs p) → (x : ℕ) → compatible_by m x ≡ compatible (describe rs cs qs p) (has x)
masks_compatible rs cs qs p m masks few short A x = compatible_is rs cs qs p short
    (λ i h. let o = (A.disjoints_ok i h).0 in (omega (arith, few, o.0), omega (arith, few, o.1))) m x
    (masks_count rs (records_in p) m masks) (λ i h. masks_disjoint rs (records_in p) m masks i h)

-- ---- laws for the code
at_most : (most n : ℕ) → up_to most n ≤ most
at_most most n = elim (dec_lt n most) [
  | yes l ↦ (let z : n ≤ most = omega arith in omega (arith, up_to_all most n z))
  | no l ↦ (let z : most ≤ n = omega arith in omega (arith, up_to_most most n z))
]

-- the roles that are not simple, from any table of ancestors
pub complex_from : (rs a : List ℕ) (complex : ℕ) → AncestorsOf rs a → complex ≡ above_transitive rs a (role_count rs) → complex ≡ complex_in rs
unfolding complex_in
complex_from rs a complex anc e = e
    ∙ set_of_cong 16 _ _ (λ s _. any_cong (role_count rs) _ _ (λ i h. let k : i < 16 = omega (arith, at_most 16 (length rs / 3)) in
    ap (λ m. eqb (byte_at rs (3 * i)) 1 && has m s) (anc i k ∙ sym (at_tabulate 16 (passed rs (role_count rs)) 0 i k))))

pub record_made : (rs a : List ℕ) (complex i : ℕ) (R : Role) → AncestorsOf rs a → complex ≡ complex_in rs → i < 16
    → R ≡ record_with rs complex i (get_or a i 0) → R ≡ role_record rs i
unfolding role_record
record_made rs a complex i R anc e h q = q ∙ ap₂ (λ c m. record_with rs c i m) e (anc i h)

pub table_made : (rs : List ℕ) (t : List Role) → length t ≡ 16 → ((i : ℕ) → i < 16 → role_at t i ≡ role_record rs i) → t ≡ role_table rs
unfolding role_table
table_made rs t long f = ext_get_or no_role t (role_table rs) (long ∙ sym (length_tabulate 16 (role_record rs)))
    (λ i h. let k : i < 16 = omega (arith, long) in f i k ∙ sym (at_tabulate 16 (role_record rs) no_role i k))

pub masks_made : (t : List Role) (ps out : List ℕ) → length out ≡ 49 → ((i : ℕ) → i < 49 → get_or out i 0 ≡ mask_of t ps i) → out ≡ role_masks t ps
unfolding role_masks
masks_made t ps out f g = ext_get_or 0 out (tabulate 49 (mask_of t ps)) (f ∙ sym (length_tabulate 49 (mask_of t ps)))
    (λ i h. let k : i < 49 = omega (arith, f) in g i k ∙ sym (at_tabulate 49 (mask_of t ps) 0 i k))
