-- When a description is accepted: tests 3 to 8 of the table of refusals and 26 (02, job 5; FORMAT 3), stated and as tests in the table's order.
-- Each test is made of tests of one item against the table. What only bytes can get wrong of a role (its transitive byte) and of an
-- entry (an unknown kind, a field that is not used) belongs to 3 and 4 and comes in as two further tests, one of each.
use Rattle.std.specs.Prelude.{ℕ, zero, suc, ◌≤◌, ◌<◌, ◌≡◌, refl, ◌≢◌, Bool, true, not, ◌&&◌, eqb, leb, ltb}
use Rattle.std.proofs.Common.{sym, ◌∙◌, subst, arith}
use Rattle.std.proofs.Math.Option.{Option, none}
use Rattle.std.proofs.Math.Decide.{dec_lt}
use Rattle.logic.specs.Tests.{So, ◌⇒◌}
use Rattle.logic.specs.Bounded.{all_below, any_below}
use Rattle.logic.specs.Sets.{narrow}
use Rattle.logic.specs.Refusals.{unless}
use Rattle.description.specs.Literals.{Literal, entry_of}
use Rattle.description.specs.Descriptions.{Entry, top, name, both, every, at_least, Disjoint, Description, included, compound, same_entry, if_every, if_least}
use Rattle.description.specs.Roles.{ancestor, simple}

-- the greatest number of an "at least"
abbrev pub greatest_number : ℕ
greatest_number = 1000

-- 4, at entry e: top is entry 0 and no other; literals are of earlier entries, roles of the table, numbers 1 to 1,000
abbrev pub EntryOk : Description → ℕ → Entry → Type 0
EntryOk D e top = e ≡ 0
EntryOk D e name = 0 < e
EntryOk D e (both a b) = (entry_of a < e) × (entry_of b < e)
EntryOk D e (every r l) = (r < D.roles) × (entry_of l < e)
EntryOk D e (at_least r l n) = ((r < D.roles) × (entry_of l < e)) × ((1 ≤ n) × (n ≤ greatest_number))

-- 7, of "every R l": for each transitive T with ancestor R there is an "every T l", anywhere in the table
abbrev pub EveryBelow : Description → ℕ → Literal → Type 0
EveryBelow D r l = (t : ℕ) → t < D.roles → So (D.transitive t) → So (ancestor D t r) → (f : ℕ) × (f < D.entries) × (every t l ≡ D.entry f)

-- 26, of one record: two roles of the table, not the same, both simple
abbrev pub DisjointOk : Description → Disjoint → Type 0
DisjointOk D p = ((p.one < D.roles) × (p.other < D.roles)) × ((p.one ≢ p.other) × (So (simple D p.one) × So (simple D p.other)))

pub record Accepted (D : Description) : Type 0 where
  -- 2, in part: there is a role and an entry (the greatest sizes are the byte level's)
  pub some_role : 1 ≤ D.roles
  pub some_entry : 1 ≤ D.entries
  -- 3: every parent is a role of the table
  pub parents_in : (r : ℕ) → r < D.roles → (s : ℕ) → So (included D r s) → s < D.roles
  -- 4
  pub fields : (e : ℕ) → e < D.entries → EntryOk D e (D.entry e)
  -- 5: an "at least" counts over a simple role
  pub simples : (e : ℕ) → e < D.entries → (r : ℕ) (l : Literal) (n : ℕ) → D.entry e ≡ at_least r l n → So (simple D r)
  -- 6: of kinds 2 to 4, no entry has all fields as an earlier one
  pub distinct : (f : ℕ) → f < D.entries → (e : ℕ) → e < f → So (compound (D.entry e)) → D.entry e ≢ D.entry f
  -- 7
  pub everys_below : (e : ℕ) → e < D.entries → (r : ℕ) (l : Literal) → D.entry e ≡ every r l → EveryBelow D r l
  -- 8: the root and the rules are literals of the table
  pub root_in : entry_of D.root < D.entries
  pub rules_inside : (i : ℕ) → i < D.rules → entry_of (D.rule i) < D.entries
  -- 26
  pub disjoints_ok : (i : ℕ) → i < D.disjoints → DisjointOk D (D.disjoint i)

-- ---- the tests
-- 3, of one role
abbrev pub role_test : Description → ℕ → Bool
role_test D r = narrow (D.parents r) D.roles

-- 4, of one entry
unfoldable pub entry_test : Description → ℕ → Entry → Bool
entry_test D e top = eqb e 0
entry_test D e name = ltb 0 e
entry_test D e (both a b) = ltb (entry_of a) e && ltb (entry_of b) e
entry_test D e (every r l) = ltb r D.roles && ltb (entry_of l) e
entry_test D e (at_least r l n) = (ltb r D.roles && ltb (entry_of l) e) && (leb 1 n && leb n greatest_number)

-- 5, of one entry
abbrev pub simple_test : Description → Entry → Bool
simple_test D = if_least (λ r l n. simple D r)

-- 6, of an entry put at place f
abbrev pub distinct_test : Description → ℕ → Entry → Bool
distinct_test D f x = all_below f (λ e. compound (D.entry e) ⇒ not (same_entry (D.entry e) x))

-- 7, of one entry
abbrev pub every_below_test : Description → Entry → Bool
every_below_test D = if_every (λ r l. all_below D.roles (λ t. D.transitive t ⇒ (ancestor D t r ⇒ any_below D.entries (λ f. same_entry (every t l) (D.entry f)))))

-- 8, of one literal
abbrev pub literal_test : Description → Literal → Bool
literal_test D l = ltb (entry_of l) D.entries

-- 26, of one record
abbrev pub disjoint_test : Description → Disjoint → Bool
disjoint_test D p = (ltb p.one D.roles && ltb p.other D.roles) && (not (eqb p.one p.other) && (simple D p.one && simple D p.other))

-- each over the whole description; the forms are what bytes add to 3 and 4
abbrev pub roles_test : (ℕ → Bool) → Description → Bool
roles_test roleForm D = all_below D.roles (λ r. roleForm r && role_test D r)

abbrev pub entries_test : (ℕ → Bool) → Description → Bool
entries_test entryForm D = all_below D.entries (λ e. entryForm e && entry_test D e (D.entry e))

abbrev pub simples_test : Description → Bool
simples_test D = all_below D.entries (λ e. simple_test D (D.entry e))

abbrev pub distincts_test : Description → Bool
distincts_test D = all_below D.entries (λ f. distinct_test D f (D.entry f))

abbrev pub everys_test : Description → Bool
everys_test D = all_below D.entries (λ e. every_below_test D (D.entry e))

abbrev pub query_test : Description → Bool
query_test D = literal_test D D.root && all_below D.rules (λ i. literal_test D (D.rule i))

abbrev pub disjoints_test : Description → Bool
disjoints_test D = all_below D.disjoints (λ i. disjoint_test D (D.disjoint i))

-- the first of 3 to 8, then 26, that refuses
unfoldable pub description_tests : (ℕ → Bool) → (ℕ → Bool) → Description → Option ℕ
description_tests roleForm entryForm D =
    unless (roles_test roleForm D) 3 (unless (entries_test entryForm D) 4
    (unless (simples_test D) 5 (unless (distincts_test D) 6 (unless (everys_test D) 7 (unless (query_test D) 8 (unless (disjoints_test D) 26 none))))))

-- lifted: no bytes
abbrev pub description_refusal : Description → Option ℕ
description_refusal D = description_tests (λ r. true) (λ e. true) D

-- ---- what follows
module _ (D : Description) (A : Accepted D) where
  -- entry 0 is top
  pub first_top : D.entry 0 ≡ top
  first_top = go (D.entry 0) (A.fields 0 A.some_entry)
    where
      go : (x : Entry) → EntryOk D 0 x → x ≡ top
      go top h = refl
      go name h = absurd (omega arith)
      go (both a b) h = absurd (omega arith)
      go (every r l) h = absurd (omega arith)
      go (at_least r l n) h = absurd (omega arith)

  pub fields_at_lem : (e : ℕ) (x : Entry) → e < D.entries → D.entry e ≡ x → EntryOk D e x
  fields_at_lem e x h q = subst (EntryOk D e) q (A.fields e h)

  -- "every T l" is one entry
  pub every_one : (e f t : ℕ) (l : Literal) → e < D.entries → f < D.entries → D.entry e ≡ every t l → D.entry f ≡ every t l → e ≡ f
  every_one e f t l he hf p q = elim (dec_lt e f) [
    | yes h ↦ absurd (A.distinct f hf e h (rw p refl) (p ∙ sym q))
    | no h ↦ elim (dec_lt f e) [ yes g ↦ absurd (A.distinct e he f g (rw q refl) (q ∙ sym p)) | no g ↦ omega arith ]
  ]
