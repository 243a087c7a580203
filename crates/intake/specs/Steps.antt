-- The tests of single items as the code makes them, on bytes and role records, and that in their order they are the tests of the description.
use Rattle.std.specs.Prelude.{ℕ, zero, suc, ◌+◌, ◌-◌, ◌*◌, ◌/◌, ◌%◌, ◌≤◌, ◌<◌, ◌≡◌, Bool, true, false, ◌&&◌, List, eqb, ltb, length}
use Rattle.std.proofs.Math.Path.{refl, ap}
use Rattle.std.proofs.Common.{sym, ◌∙◌, ap₂, subst, arith, mod-eq_of_lt, add-one}
use Rattle.std.proofs.Math.Bool.{not}
use Rattle.std.proofs.Math.Option.{Option, none}
use Rattle.std.proofs.Math.Dec.{leb}
use Rattle.logic.specs.Tests.{not_and, So, ◌⇒◌, so_and, and_l, and_r, so_ltb, ltb_so, same_test}
use Rattle.logic.specs.Bounded.{all_below, all_intro, all_elim, all_cong}
use Rattle.logic.specs.Sets.{narrow}
use Rattle.logic.specs.Refusals.{unless, unless_then}
use Rattle.parts.specs.Numbers.{byte_at, num2, up_to, up_to_all}
use Rattle.description.specs.Literals.{literal, code, entry_of, code_literal, code_entry}
use Rattle.description.specs.Descriptions.{Entry, top, name, both, every, at_least, Description, Fields, fields_of, entry_of_fields, entry_back, same_fields, same_fields↔, same_entry, compound, if_every, if_least}
use Rattle.description.specs.Roles.{simple}
use Rattle.description.specs.Acceptance.{entry_test, simple_test, distinct_test, every_below_test, literal_test, entries_test, simples_test, distincts_test, everys_test, query_test, disjoint_test, disjoints_test, description_tests, EntryOk}
use Rattle.description.proofs.Acceptance.{entry↔}
use Rattle.labels.specs.Labels.{most_entries}
use Rattle.tables.specs.Tables.{entry_count, fields_at, records_in, describe, fields_test}
use Rattle.tables.proofs.Tables.{fields↔}
use Rattle.roles.specs.Ancestors.{role_count}
use Rattle.roles.specs.Disjoint.{disjoint_count}
use Rattle.roles.specs.Records.{role_at, role_table, table_simple}
use Rattle.roles.specs.declared.Role.{Role}
use Rattle.entry_tests.specs.Everys.{below_in, all_there, every_at, every_there_is}
use Rattle.entry_tests.specs.Entries.{simple_at, twin_at}
use Rattle.intake.specs.Intake.{most_roles, records_test, sizes_test, sizes_few, entry_form, parts_test}

-- 3, of one role: its transitive byte, and its parents
abbrev pub role_kept : List ℕ → ℕ → Bool
role_kept rs r = leb (byte_at rs (3 * r)) 1 && narrow (num2 rs (3 * r + 1)) (length rs / 3)

-- 26, of record i, with the first n role records: two of these roles, not the same, both simple
abbrev pub disjoint_kept : List ℕ → List Role → ℕ → ℕ → Bool
disjoint_kept ps t n i = let r = byte_at ps (2 * i) in let s = byte_at ps (2 * i + 1) in
    (ltb r n && ltb s n) && (not (eqb r s) && ((role_at t (r % 16)).simple && (role_at t (s % 16)).simple))

-- each over the whole description
abbrev pub roles_code : List ℕ → Bool
roles_code rs = all_below (length rs / 3) (role_kept rs)

abbrev pub entries_code : List ℕ → List ℕ → Bool
entries_code rs cs = all_below (length cs / 6) (λ e. fields_test (length rs / 3) e (fields_at cs e))

abbrev pub simples_code : List ℕ → List Role → Bool
simples_code cs t = all_below (entry_count cs) (simple_at cs t)

abbrev pub distincts_code : List ℕ → Bool
distincts_code cs = all_below (length cs / 6) (λ f. all_below f (λ e. not (twin_at cs f e)))

abbrev pub everys_code : List ℕ → List Role → ℕ → Bool
everys_code cs t n = all_below (entry_count cs) (every_at cs t n)

abbrev pub query_code : List ℕ → List ℕ → Bool
query_code cs qs = all_below (length qs) (λ i. ltb (byte_at qs i) (2 * (length cs / 6)))

abbrev pub disjoints_code : List ℕ → List Role → ℕ → Bool
disjoints_code ps t n = all_below (disjoint_count ps) (disjoint_kept ps t n)

-- in their order: 5 to 8 and 26, with the first n records, and all
unfoldable pub later_test : List ℕ → List ℕ → List ℕ → List Role → ℕ → Option ℕ
later_test cs qs ps t n =
    unless (simples_code cs t) 5 (unless (distincts_code cs) 6 (unless (everys_code cs t n) 7 (unless (query_code cs qs) 8 (unless (disjoints_code ps t n) 26 none))))

unfoldable pub steps_test : List ℕ → List ℕ → List ℕ → List ℕ → List Role → Option ℕ
steps_test rs cs qs ps t =
    unless (sizes_test rs cs qs ps) 2 (unless (roles_code rs) 3 (unless (entries_code rs cs) 4 (later_test cs qs ps t (up_to 16 (role_count rs)))))

-- ---- each is the test of the description
-- 4: the fields test is "of the form of an entry, and that entry keeps its rule"
pub fields_are : (D : Description) (e : ℕ) (F : Fields) → fields_test D.roles e F ≡ (same_fields F (fields_of (entry_of_fields F)) && entry_test D e (entry_of_fields F))
fields_are D e F = same_test _ _
    (λ h. let w = (fields↔ D e F).0 h in let x = ap entry_of_fields w.1 ∙ entry_back w.0 in
    so_and _ _ ((same_fields↔ F _).1 (w.1 ∙ ap fields_of (sym x))) ((entry↔ D e (entry_of_fields F)).1 (subst (EntryOk D e) (sym x) w.2)))
    (λ h. (fields↔ D e F).1 (entry_of_fields F, (same_fields↔ F _).0 (and_l _ _ h), (entry↔ D e (entry_of_fields F)).0 (and_r (same_fields F (fields_of (entry_of_fields F))) _ h)))

pub entries_are : (rs cs qs : List ℕ) (p : Option (List ℕ)) (e : ℕ) → fields_test (length rs / 3) e (fields_at cs e) ≡ (entry_form cs e && entry_test (describe rs cs qs p) e (entry_of_fields (fields_at cs e)))
entries_are rs cs qs p e = fields_are (describe rs cs qs p) e (fields_at cs e)

compound_kind : (x : Entry) → compound x ≡ leb 2 (fields_of x).kind
compound_kind top = refl
compound_kind name = refl
compound_kind (both a b) = refl
compound_kind (every r l) = refl
compound_kind (at_least r l n) = refl

-- where sizes are kept and every entry is of the form and keeps its rule
module _ (rs cs qs : List ℕ) (p : Option (List ℕ)) (t : List Role) (tab : t ≡ role_table rs) (few : length rs / 3 ≤ 16) (small : length cs / 6 ≤ most_entries) where
  abbrev D : Description
  D = describe rs cs qs p

  abbrev n : ℕ
  n = length cs / 6

  pub simple_is : (e : ℕ) (x : Entry) → EntryOk D e x → if_least (λ r l k. (role_at t (r % 16)).simple) x ≡ simple_test D x
  unfolding if_least
  simple_is e (at_least r l k) o = let h : r < 16 = omega (arith, o.0.0) in ap (λ i. (role_at t i).simple) (mod-eq_of_lt h) ∙ table_simple rs t tab cs qs p few r h
  simple_is e top o = refl
  simple_is e name o = refl
  simple_is e (both c d) o = refl
  simple_is e (every r l) o = refl

  pub every_is : (e : ℕ) (x : Entry) → e < n → EntryOk D e x → if_every (λ r l. all_there cs (below_in t (up_to 16 (role_count rs)) (r % 16)) (code l)) x ≡ every_below_test D x
  unfolding if_every
  every_is e (every r l) h o = let k : r < 16 = omega (arith, o.0) in
      rw (mod-eq_of_lt k) (every_there_is rs cs qs p t tab few small r l k (let z = (code_entry l e).1 o.1 in omega (arith, z)))
  every_is e top h o = refl
  every_is e name h o = refl
  every_is e (both c d) h o = refl
  every_is e (at_least r l k) h o = refl

  module _ (ok : (e : ℕ) → e < n → So (fields_test (length rs / 3) e (fields_at cs e))) where
    entry_ok : (e : ℕ) → e < n → EntryOk D e (D.entry e)
    entry_ok e h = (entry↔ D e (D.entry e)).0 (and_r (entry_form cs e) _ (sym (entries_are rs cs qs p e) ∙ ok e h))

    form_ok : (e : ℕ) → e < n → fields_at cs e ≡ fields_of (D.entry e)
    form_ok e h = (same_fields↔ _ _).0 (and_l _ _ (sym (entries_are rs cs qs p e) ∙ ok e h))

    twin_is : (f : ℕ) → f < n → (e : ℕ) → e < f → not (twin_at cs f e) ≡ (compound (D.entry e) ⇒ not (same_entry (D.entry e) (D.entry f)))
    unfolding same_entry
    twin_is f hf e he = not_and (leb 2 (byte_at cs (6 * e))) (same_fields (fields_at cs e) (fields_at cs f))
        ∙ ap (λ F. leb 2 F.kind ⇒ not (same_fields F (fields_at cs f))) (form_ok e (omega arith))
        ∙ ap (λ F. leb 2 (fields_of (D.entry e)).kind ⇒ not (same_fields (fields_of (D.entry e)) F)) (form_ok f hf)
        ∙ ap (λ b. b ⇒ not (same_fields (fields_of (D.entry e)) (fields_of (D.entry f)))) (sym (compound_kind (D.entry e)))

    -- 5, 6 and 7: of one entry, and of all
    pub simple_at_lem : (e : ℕ) → e < n → simple_at cs t e ≡ simple_test D (D.entry e)
    simple_at_lem e h = simple_is e _ (entry_ok e h)

    pub distinct_at : (f : ℕ) → f < n → all_below f (λ e. not (twin_at cs f e)) ≡ distinct_test D f (D.entry f)
    distinct_at f h = all_cong f _ _ (twin_is f h)

    pub every_at_lem : (e : ℕ) → e < n → every_at cs t (up_to 16 (role_count rs)) e ≡ every_below_test D (D.entry e)
    every_at_lem e h = every_is e _ h (entry_ok e h)

    pub simples_are : simples_code cs t ≡ simples_test D
    simples_are = rw (up_to_all most_entries n small) (all_cong n _ _ simple_at_lem)

    distincts_are : distincts_code cs ≡ distincts_test D
    distincts_are = all_cong n _ _ distinct_at

    pub everys_are : everys_code cs t (up_to 16 (role_count rs)) ≡ everys_test D
    everys_are = rw (up_to_all most_entries n small) (all_cong n _ _ every_at_lem)

-- 8: the root, then the rules
pub literal_is : (x m : ℕ) → ltb x (2 * m) ≡ ltb (entry_of (literal x)) m
literal_is x m = same_test _ _
    (λ h. ltb_so _ _ ((code_entry (literal x) m).0 (rw (code_literal x) (so_ltb x (2 * m) h))))
    (λ h. ltb_so x (2 * m) (rw (code_literal x) at ((code_entry (literal x) m).1 (so_ltb _ _ h))))

query_is : (rs cs qs : List ℕ) (p : Option (List ℕ)) → 1 ≤ length qs → all_below (length qs) (λ i. ltb (byte_at qs i) (2 * (length cs / 6)))
    ≡ (literal_test (describe rs cs qs p) (describe rs cs qs p).root && all_below (length qs - 1) (λ i. literal_test (describe rs cs qs p) ((describe rs cs qs p).rule i)))
query_is rs cs qs p h = same_test _ _
    (λ a. so_and _ _ (sym (literal_is (byte_at qs 0) m) ∙ all_elim (length qs) _ a 0 (omega arith))
    (all_intro (length qs - 1) _ (λ i l. sym (literal_is (byte_at qs (i + 1)) m) ∙ all_elim (length qs) _ a (i + 1) (omega arith))))
    (λ a. all_intro (length qs) _ (λ i l. literal_is (byte_at qs i) m ∙ each i l (and_l _ _ a) (all_elim (length qs - 1) _ (and_r (literal_test (describe rs cs qs p) (describe rs cs qs p).root) _ a))))
  where
    m : ℕ
    m = length cs / 6

    each : (i : ℕ) → i < length qs → So (ltb (entry_of (literal (byte_at qs 0))) m)
        → ((i : ℕ) → i < length qs - 1 → So (ltb (entry_of (literal (byte_at qs (i + 1)))) m)) → So (ltb (entry_of (literal (byte_at qs i))) m)
    each zero l r f = r
    each (suc i) l r f = rw (add-one i) at (f i (omega arith))

-- 26
module _ (rs cs qs : List ℕ) (p : Option (List ℕ)) (t : List Role) (tab : t ≡ role_table rs) (few : length rs / 3 ≤ 16) where
  abbrev D₂₆ : Description
  D₂₆ = describe rs cs qs p

  simple_of : (r : ℕ) → r < length rs / 3 → (role_at t (r % 16)).simple ≡ simple D₂₆ r
  simple_of r h = let k : r < 16 = omega arith in ap (λ i. (role_at t i).simple) (mod-eq_of_lt k) ∙ table_simple rs t tab cs qs p few r k

  disjoint_is : (i : ℕ) → disjoint_kept (records_in p) t (length rs / 3) i ≡ disjoint_test D₂₆ (D₂₆.disjoint i)
  disjoint_is i = go (ltb r n) (ltb s n) refl refl
    where
      n : ℕ
      n = length rs / 3

      r : ℕ
      r = byte_at (records_in p) (2 * i)

      s : ℕ
      s = byte_at (records_in p) (2 * i + 1)

      go : (x y : Bool) → ltb r n ≡ x → ltb s n ≡ y
          → ((x && y) && (not (eqb r s) && ((role_at t (r % 16)).simple && (role_at t (s % 16)).simple)))
          ≡ ((x && y) && (not (eqb r s) && (simple D₂₆ r && simple D₂₆ s)))
      go true true e f = ap₂ (λ a b. not (eqb r s) && (a && b)) (simple_of r (so_ltb r n e)) (simple_of s (so_ltb s n f))
      go true false e f = refl
      go false y e f = refl

  disjoints_are : length (records_in p) / 2 ≤ 16 → disjoints_code (records_in p) t (up_to 16 (role_count rs)) ≡ disjoints_test D₂₆
  disjoints_are short = rw (up_to_all 16 (length (records_in p) / 2) short, up_to_all 16 (length rs / 3) few, up_to_all 16 (length rs / 3) few)
      (all_cong (length (records_in p) / 2) _ _ (λ i _. disjoint_is i))

-- tests in order agree, if each does where those before it pass
in_order : (a3 a4 b4 a5 b5 a6 b6 a7 b7 a8 b8 a26 b26 : Bool) → a4 ≡ b4 → (So a4 → (a5 ≡ b5) × (a6 ≡ b6) × (a7 ≡ b7)) → a8 ≡ b8 → a26 ≡ b26
    → unless a3 3 (unless a4 4 (unless a5 5 (unless a6 6 (unless a7 7 (unless a8 8 (unless a26 26 none))))))
    ≡ unless a3 3 (unless b4 4 (unless b5 5 (unless b6 6 (unless b7 7 (unless b8 8 (unless b26 26 none))))))
in_order a3 true b4 a5 b5 a6 b6 a7 b7 a8 b8 a26 b26 e4 e e8 e26 = let w = e refl in rw (← e4, w.0, w.1, w.2, e8, e26) refl
in_order a3 false b4 a5 b5 a6 b6 a7 b7 a8 b8 a26 b26 e4 e e8 e26 = rw (← e4) refl

-- the code's tests in their order are the tests of the description
pub steps_are : (rs cs qs : List ℕ) (p : Option (List ℕ)) (t : List Role) → t ≡ role_table rs → steps_test rs cs qs (records_in p) t ≡ parts_test rs cs qs p
unfolding later_test steps_test parts_test description_tests
steps_are rs cs qs p t tab = unless_then (sizes_test rs cs qs (records_in p)) (sizes_test rs cs qs (records_in p)) 2 _ _ refl (λ s.
    let z = sizes_few rs cs qs (records_in p) s in let few = z.0 in let small = z.2 in
    in_order (roles_code rs) (entries_code rs cs) (entries_test (entry_form cs) D) (simples_code cs t) (simples_test D) (distincts_code cs) (distincts_test D)
    (everys_code cs t (up_to 16 (role_count rs))) (everys_test D) (query_code cs qs) (query_test D)
    (disjoints_code (records_in p) t (up_to 16 (role_count rs))) (disjoints_test D)
    (all_cong n _ _ (λ e _. entries_are rs cs qs p e)) (λ q. let ok = all_elim n (λ e. fields_test (length rs / 3) e (fields_at cs e)) q in
    (simples_are rs cs qs p t tab few small ok, distincts_are rs cs qs p t tab few small ok, everys_are rs cs qs p t tab few small ok))
    (query_is rs cs qs p z.1) (disjoints_are rs cs qs p t tab few z.3))
  where
    D : Description
    D = describe rs cs qs p

    n : ℕ
    n = length cs / 6

-- ---- laws for the code
pub sizes_read : (rs cs qs ps : List ℕ) (x y : Bool) → x ≡ records_test 3 most_roles rs → y ≡ records_test 6 most_entries cs
    → (x && (y && ((leb 1 (length qs) && leb (length qs) 17) && (eqb (length ps % 2) 0 && leb (length ps) 32)))) ≡ sizes_test rs cs qs ps
unfolding sizes_test
sizes_read rs cs qs ps x y p q = rw (p, q) refl

pub disjoint_read : (ps : List ℕ) (t : List Role) (n i r s : ℕ) (q : Bool) → r ≡ byte_at ps (2 * i) → s ≡ byte_at ps (2 * i + 1)
    → q ≡ ((ltb r n && ltb s n) && (not (eqb r s) && ((role_at t (r % 16)).simple && (role_at t (s % 16)).simple))) → q ≡ disjoint_kept ps t n i
disjoint_read ps t n i r s q e f g = rw (← e, ← f) g
