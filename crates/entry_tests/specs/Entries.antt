-- Tests 5 and 6 of one entry as the code makes them, on the fields that it has read and the role records.
use Prim.Native.Nat.{ℕ, zero, suc, ◌*◌, ◌%◌, ◌≤◌, ◌<◌}
use Rattle.std.specs.Prelude.{◌≡◌, Bool, true, false, not, ◌&&◌, ◌||◌, List, eqb, leb, ltb}
use Rattle.std.proofs.Math.Path.{refl}
use Rattle.std.proofs.Common.{sym, ◌∙◌, ap, arith, le-ltb, le-leb, eq-eqb}
use Rattle.logic.specs.Tests.{so_and, and_l, and_r, so_leb, so_false, same_test}
use Rattle.logic.specs.Bounded.{all_below, all_intro, all_cong}
use Rattle.parts.specs.Numbers.{byte_at}
use Rattle.description.specs.Descriptions.{entry_from, entry_of_fields, same_fields, same_fields↔, if_least}
use Rattle.tables.specs.Concepts.{fields_struct, fields_in}
use Rattle.tables.specs.declared.Fields as Code
use Rattle.tables.specs.Tables.{fields_at}
use Rattle.roles.specs.Records.{role_at}
use Rattle.roles.specs.declared.Role.{Role}

-- 5, of one entry, with the role records
abbrev pub simple_at : List ℕ → List Role → ℕ → Bool
simple_at cs t e = if_least (λ r l n. (role_at t (r % 16)).simple) (entry_of_fields (fields_at cs e))

-- 6, of entry f against the earlier e, by their fields
abbrev pub twin_at : List ℕ → ℕ → ℕ → Bool
twin_at cs f e = leb 2 (byte_at cs (6 * e)) && same_fields (fields_at cs e) (fields_at cs f)

-- fields that the code has read
module _ (cs : List ℕ) where
  least_by_kind : (p : ℕ → Bool) (k r a b n : ℕ) → (ltb k 4 || p r) ≡ if_least (λ r l n. p r) (entry_from k r a b n)
  unfolding entry_from if_least
  least_by_kind p zero r a b n = refl
  least_by_kind p (suc zero) r a b n = refl
  least_by_kind p (suc (suc zero)) r a b n = refl
  least_by_kind p (suc (suc (suc zero))) r a b n = refl
  least_by_kind p (suc (suc (suc (suc k)))) r a b n = rw (le-ltb (suc (suc (suc (suc k)))) 4 (omega arith)) refl

  pub simple_read : (t : List Role) (e : ℕ) (g : Code.Fields) → g ≡ fields_struct cs e → (ltb g.kind 4 || (role_at t (g.role % 16)).simple) ≡ simple_at cs t e
  simple_read t e g q = let F = fields_at cs e in rw q (least_by_kind (λ r. (role_at t (r % 16)).simple) F.kind F.role F.first F.second F.number)

  module _ (e : ℕ) (a b : Code.Fields) (p : a ≡ fields_struct cs e) where
    pub other_role : (a.role ≡ b.role → ⊥) → false ≡ same_fields (fields_at cs e) (fields_in b)
    other_role n = sym (so_false (same_fields (fields_at cs e) (fields_in b)) (λ u. n (ap (λ a. a.role) p ∙ ap (λ F. F.role) ((same_fields↔ (fields_at cs e) (fields_in b)).0 u))))

    pub other_first : (a.first ≡ b.first → ⊥) → false ≡ same_fields (fields_at cs e) (fields_in b)
    other_first n = sym (so_false (same_fields (fields_at cs e) (fields_in b)) (λ u. n (ap (λ a. a.first) p ∙ ap (λ F. F.first) ((same_fields↔ (fields_at cs e) (fields_in b)).0 u))))

    pub twin_read : a.role ≡ b.role → a.first ≡ b.first
        → (eqb a.kind b.kind && (eqb a.second b.second && eqb a.number b.number)) ≡ same_fields (fields_at cs e) (fields_in b)
    twin_read r f = ap (λ t. eqb a.kind b.kind && t) (sym (ap (λ t. t && (eqb a.first b.first && (eqb a.second b.second && eqb a.number b.number))) (eq-eqb a.role b.role r)
        ∙ ap (λ t. t && (eqb a.second b.second && eqb a.number b.number)) (eq-eqb a.first b.first f))) ∙ rw p refl

  -- a twin of entry f has its kind
  module _ (f : ℕ) (b : Code.Fields) (q : b ≡ fields_struct cs f) where
    pub twins_here : 2 ≤ b.kind → all_below f (λ e. not (same_fields (fields_at cs e) (fields_in b))) ≡ all_below f (λ e. not (twin_at cs f e))
    twins_here h = all_cong f _ _ (λ e _. ap not (ap (λ b. same_fields (fields_at cs e) (fields_in b)) q ∙ same_test _ _
        (λ u. so_and (leb 2 (fields_at cs e).kind) (same_fields (fields_at cs e) (fields_at cs f)) (le-leb 2 (fields_at cs e).kind (
        let z = ap (λ F. F.kind) ((same_fields↔ (fields_at cs e) (fields_at cs f)).0 u) in let w = ap (λ g. g.kind) q in omega arith)) u)
        (λ u. and_r (leb 2 (fields_at cs e).kind) _ u)))

    pub no_twin : b.kind < 2 → true ≡ all_below f (λ e. not (twin_at cs f e))
    no_twin h = sym (all_intro f (λ e. not (twin_at cs f e)) (λ e _. ap not (so_false (twin_at cs f e) (λ u.
        let z = ap (λ F. F.kind) ((same_fields↔ (fields_at cs e) (fields_at cs f)).0 (and_r (leb 2 (fields_at cs e).kind) _ u)) in
        let w = ap (λ g. g.kind) q in let v = so_leb 2 (fields_at cs e).kind (and_l (leb 2 (fields_at cs e).kind) _ u) in omega arith))))
