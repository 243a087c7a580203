-- Every accepted description of three pairs is what the editor writes out of a draft that is made (02, job 4).
use Prim.Native.Nat.{ℕ, zero, suc, ◌+◌, ◌-◌, ◌*◌, ◌/◌, ◌≤◌, ◌<◌}
use Rattle.std.specs.Prelude.{◌≡◌, ◌↔◌, true, false, cond, get_or, drop}
use Rattle.std.proofs.Math.Path.{refl, ap}
use Rattle.std.proofs.Common.{sym, ◌∙◌, subst, zero-add, add-one, length-append, length-drop, length-take-le, ext_get_or}
use mathlib.Core.List.{List, [], ◌∷◌, ◌++◌, map, flatten}
use Rattle.std.proofs.lemmas.Bool.{false≢true}
use Rattle.std.proofs.Math.Option.{Option, none, some}
use native.Mathlib.Omega.{arith}
use Rattle.std.proofs.Math.ListN.{length}
use Rattle.std.proofs.lemmas.List.{length-map}
use Rattle.logic.specs.Tests.{So, so_and, leb_so}
use Rattle.logic.specs.Lists.{tabulate, length_tabulate, at_tabulate}
use Rattle.parts.specs.Numbers.{byte_at, num2}
use Rattle.parts.specs.Pairs.{offset_at, length_at, end_at, part_at, Fills, pair_inside}
use Rattle.laying.specs.Places.{Stands, stands_part, stands_append, stands_more, stands_whole, before, before_even, before_all}
use Rattle.laying.specs.Places.{stands_flatten, at_map, Small, small_in}
use Rattle.laying.specs.Numbers.{two}
use Rattle.laying.proofs.Numbers.{two_bytes}
use Rattle.description.specs.Descriptions.{Fields, fields_of, top}
use Rattle.tables.specs.Tables.{fields_at}
use Rattle.labels.specs.Labels.{most_entries}
use Rattle.directory.specs.Directory.{four, roles_part, concepts_part, query_part}
use Rattle.intake.specs.Intake.{described, most_roles, most_rules, most_disjoints, bytes_test, AcceptedBytes}
use Rattle.intake.specs.Intake.{accepted_bytes↔, accepted_sizes}
use Rattle.editing.specs.Editing.{RoleIn, lone_role, Draft, is_set, root_of, Made}
use Rattle.editing.proofs.Kept.{Few}
use Rattle.editing.proofs.Reach.{made↔}
use Rattle.edit_bytes.specs.Out.{role_bytes, entry_bytes, roles_out, concepts_out, query_out, pair, with_pairs, out_bytes, whole}
use Rattle.edit_bytes.proofs.OutLaws.{no_fourth, out_tests, out_accepted, roles_part_lem, concepts_part_lem, query_part_lem, roles_long, concepts_long}
use Rattle.edit_bytes.proofs.OutLaws.{byte_of, mask_of_lem, fields_of_lem}
use Rattle.edit_bytes.proofs.OutSmall.{out_small}
use Rattle.edit_bytes.specs.Again.{role_of, draft_in}

-- whole records of k bytes, written again
again : {A : Type 0} (k : ℕ) (write : A → List ℕ) (read : List ℕ → ℕ → A) (dflt : A) (s : List ℕ) (n : ℕ)
    → 1 ≤ k → length s ≡ k * n → ((x : A) → length (write x) ≡ k)
    → ((i : ℕ) → i < n → Stands s (k * i) (write (read s i))) → flatten (map write (tabulate n (read s))) ≡ s
again k write read dflt s n pos long w h = stands_whole (flatten ws)
    (stands_flatten ws (omega arith) (λ i l. let m : i < n = omega (arith, many) in
    rw (even i (omega arith), at i m, zero-add (k * i)) (h i m)))
    (sym (before_all ws) ∙ even (length ws) (omega arith) ∙ ap (λ m. k * m) many ∙ sym long)
  where
    ws : List (List ℕ)
    ws = map write (tabulate n (read s))

    many : length ws ≡ n
    many = length-map (tabulate n (read s)) write ∙ length_tabulate n (read s)

    at : (i : ℕ) → i < n → get_or ws i [] ≡ write (read s i)
    at i m = at_map write (tabulate n (read s)) dflt [] i
        (let z : i < length (tabulate n (read s)) = omega (arith, length_tabulate n (read s)) in z) ∙ ap write (at_tabulate n
        (read s) dflt i m)

    even : (i : ℕ) → i ≤ length ws → before ws i ≡ k * i
    even = before_even k ws [] (λ j g. ap length (at j (let z : j < n = omega (arith, many) in z)) ∙ w (read s j))

module _ (d : List ℕ) (A : AcceptedBytes d) (three : four d ≡ false) (small : Small d) where
  abbrev T : Draft
  T = draft_in d

  abbrev rs : List ℕ
  rs = roles_part d

  abbrev cs : List ℕ
  cs = concepts_part d

  abbrev qs : List ℕ
  qs = query_part d

  fills : Fills d 0 3 12
  fills = subst (λ b. Fills d 0 (cond b 4 3) (4 * cond b 4 3)) three A.directory

  inside : (i : ℕ) → i < 3 → end_at d 0 i ≤ length d
  inside i h = pair_inside d 0 3 12 i fills h

  part_there : (i : ℕ) → i < 3 → Stands d (offset_at d 0 i) (part_at d 0 i)
  part_there i h = stands_part (length_at d 0 i) (inside i h)

  part_small : (i : ℕ) → i < 3 → Small (part_at d 0 i)
  part_small i h = small_in small (part_there i h)

  part_long : (i : ℕ) → i < 3 → length (part_at d 0 i) ≡ length_at d 0 i
  part_long i h = length-take-le (length_at d 0 i) (drop (offset_at d 0 i) d) (omega (arith, inside i h, length-drop (offset_at d 0 i) d))

  roles_again : roles_out T ≡ rs
  unfolding roles_out
  roles_again = again 3 role_bytes role_of (lone_role 0) rs (length rs / 3) (omega arith) (omega (arith, A.roles))
      (λ x. refl) (λ i h. stands_more (byte_at rs (3 * i)) (two (num2 rs (3 * i + 1))) refl
      (two_bytes.again (part_small 0 (omega arith)) (omega (arith, A.roles))))

  concepts_again : concepts_out T ≡ cs
  unfolding concepts_out
  concepts_again = again 6 entry_bytes fields_at (fields_of top) cs (length cs / 6) (omega arith) (omega (arith, A.concepts)) (λ x. refl)
      (λ i h. stands_append (byte_at cs (6 * i) ∷ byte_at cs (6 * i + 1) ∷ byte_at cs (6 * i + 2) ∷ byte_at cs (6 * i + 3) ∷ [])
      (two (num2 cs (6 * i + 4))) (kind_to_second i h) (two_bytes.again (part_small 1 (omega arith)) (omega (arith, A.concepts))))
    where
      kind_to_second : (i : ℕ) → i < length cs / 6 → Stands cs (6 * i)
          (byte_at cs (6 * i) ∷ byte_at cs (6 * i + 1) ∷ byte_at cs (6 * i + 2) ∷ byte_at cs (6 * i + 3) ∷ [])
      kind_to_second i h = record { inside = omega (arith, A.concepts); same = at }
        where
          at : (j : ℕ) → j < 4 → byte_at cs (6 * i + j)
              ≡ byte_at (byte_at cs (6 * i) ∷ byte_at cs (6 * i + 1) ∷ byte_at cs (6 * i + 2) ∷ byte_at cs (6 * i + 3) ∷ []) j
          at zero l = ap (byte_at cs) (let z : 6 * i + 0 ≡ 6 * i = omega arith in z)
          at (suc zero) l = refl
          at (suc (suc zero)) l = refl
          at (suc (suc (suc zero))) l = refl
          at (suc (suc (suc (suc j)))) l = absurd (omega arith)

  query_again : query_out T ≡ qs
  query_again = ext_get_or 0 (query_out T) qs (omega (arith, A.query.0, length_tabulate (length qs - 1) (λ i. byte_at qs (i + 1)))) at
    where
      at : (i : ℕ) → i < length (query_out T) → byte_at (query_out T) i ≡ byte_at qs i
      at zero h = refl
      at (suc i) h = at_tabulate (length qs - 1) (λ i. byte_at qs (i + 1)) 0 i
          (omega (arith, length_tabulate (length qs - 1) (λ i. byte_at qs (i + 1))))
          ∙ ap (byte_at qs) (let z : i + 1 ≡ suc i = omega arith in z)

  -- the pairs and the parts stand one after another, and are the whole
  pair_again : (i : ℕ) → i < 3 → (at : ℕ) → offset_at d 0 i ≡ at → Stands d (0 + 4 * i) (pair at (part_at d 0 i))
  pair_again i h at e = rw (← e, part_long i h) (stands_append (two (offset_at d 0 i)) (two (length_at d 0 i))
      (two_bytes.again small (omega (arith, fills.0))) (two_bytes.again small (omega (arith, fills.0))))

  -- so what is read off it is written out as it was
  pub out_again : out_bytes (draft_in d) ≡ d
  unfolding out_bytes
  out_again = ap (λ a. with_pairs a (concepts_out T) (query_out T)) roles_again ∙ ap (λ b. with_pairs rs b (query_out T)) concepts_again
      ∙ ap (with_pairs rs cs) query_again
      ∙ stands_whole (with_pairs rs cs qs) all_there_lem long
    where
      l0 : length rs ≡ length_at d 0 0
      l0 = part_long 0 (omega arith)

      l1 : length cs ≡ length_at d 0 1
      l1 = part_long 1 (omega arith)

      l2 : length qs ≡ length_at d 0 2
      l2 = part_long 2 (omega arith)

      o0 : offset_at d 0 0 ≡ 12
      o0 = fills.1.0 0 (omega arith)

      o1 : offset_at d 0 1 ≡ 12 + length rs
      o1 = fills.1.0 1 (omega arith) ∙ (omega (arith, o0, l0))

      o2 : offset_at d 0 2 ≡ 12 + length rs + length cs
      o2 = fills.1.0 2 (omega arith) ∙ (omega (arith, o1, l1))

      long : length (with_pairs rs cs qs) ≡ length d
      long = omega (arith, length-append rs (cs ++ qs), length-append cs qs, o0, o1, o2, l0, l1, l2, fills.1.1)

      parts_there : Stands d 12 (rs ++ (cs ++ qs))
      parts_there = stands_append rs (cs ++ qs) (subst (λ k. Stands d k rs) o0 (part_there 0 (omega arith)))
          (stands_append cs qs (subst (λ k. Stands d k cs) o1 (part_there 1 (omega arith)))
          (subst (λ k. Stands d k qs) o2 (part_there 2 (omega arith))))

      all_there_lem : Stands d 0 (with_pairs rs cs qs)
      all_there_lem = stands_append (pair 12 rs) _ (pair_again 0 (omega arith) 12 o0)
          (stands_append (pair (12 + length rs) cs) _ (pair_again 1 (omega arith) (12 + length rs) o1)
          (stands_append (pair (12 + length rs + length cs) qs) _ (pair_again 2 (omega arith) (12 + length rs + length cs) o2) parts_there))

  -- ---- and it is made
  sizes : (1 ≤ (described d).roles) × ((described d).roles ≤ most_roles) × (1 ≤ (described d).entries) × ((described d).entries ≤ most_entries)
      × ((described d).rules ≤ most_rules) × ((described d).disjoints ≤ most_disjoints)
  sizes = accepted_sizes d A

  few : Few (draft_in d)
  few = let z = sizes in (
    omega (arith, length_tabulate (length rs / 3) (role_of rs)),
    omega (arith, length_tabulate (length cs / 6) (fields_at cs)),
    omega (arith, length_tabulate (length qs - 1) (λ i. byte_at qs (i + 1))),
  )

  pub whole_in : So (whole (draft_in d))
  whole_in = let z = sizes in so_and _ _ (leb_so 1 (length T.roles) (omega (arith, length_tabulate (length rs / 3) (role_of rs))))
      (so_and _ _ (leb_so 1 (length T.entries) (omega (arith, length_tabulate (length cs / 6) (fields_at cs)))) refl)

  pub made_in : Made (draft_in d)
  made_in = (made↔ (draft_in d) few).1 (sym (out_tests (draft_in d) few whole_in) ∙ ap bytes_test out_again ∙ (accepted_bytes↔ d).1 A)

-- every accepted description of three pairs is written out of a draft that is made
pub put_in : (d : List ℕ) → AcceptedBytes d → four d ≡ false → Small d → (T : Draft) × Made T × So (whole T) × (out_bytes T ≡ d)
put_in d A three small = (draft_in d, made_in d A three small, whole_in d A three small, out_again d A three small)

-- so the accepted descriptions of three pairs, in bytes, are exactly what the editor writes
pub out↔ : (d : List ℕ) → (AcceptedBytes d × (four d ≡ false) × Small d) ↔ ((T : Draft) × Made T × So (whole T) × (out_bytes T ≡ d))
out↔ d = (
  λ h. put_in d h.0 h.1 h.2,
  λ t. (
    (accepted_bytes↔ d).0 (ap bytes_test (sym t.3) ∙ out_accepted t.0 t.1 t.2),
    subst (λ d. four d ≡ false) t.3 (no_fourth t.0),
    subst Small t.3 (out_small t.0 t.1),
  ),
)

-- ---- and the draft that is read from what was written is the one that was put in
draft_of : {r r' : List RoleIn} {e e' : List Fields} {o o' : Option ℕ} {u u' : List ℕ} → r ≡ r' → e ≡ e' → o ≡ o' → u ≡ u'
    → ◌≡◌ {A = Draft} (record { roles = r; entries = e; root = o; rules = u }) (record { roles = r'; entries = e'; root = o'; rules = u' })
draft_of p q s t = rw (p, q, s, t) refl

pub read_back : (T : Draft) → is_set T.root ≡ true → draft_in (out_bytes T) ≡ T
read_back T rooted = rw (roles_part_lem T, concepts_part_lem T, query_part_lem T) (draft_of roles entries (root T.root rooted) rules)
  where
    no_role_lem : RoleIn
    no_role_lem = lone_role 0

    some_role : {t t' m m' : ℕ} → t ≡ t' → m ≡ m' → ◌≡◌ {A = RoleIn} (record { transitive = t; parents = m })
        (record { transitive = t'; parents = m' })
    some_role p q = rw (p, q) refl

    roles : tabulate (length (roles_out T) / 3) (role_of (roles_out T)) ≡ T.roles
    roles = let n : length (roles_out T) / 3 ≡ length T.roles = omega (arith, roles_long T) in rw n (ext_get_or no_role_lem _ _
        (length_tabulate (length T.roles) (role_of (roles_out T)))
        (λ i h. at_tabulate (length T.roles) (role_of (roles_out T)) no_role_lem i (omega (
          arith,
          length_tabulate (length T.roles)
              (role_of (roles_out T)),
        )) ∙ some_role (byte_of T i) (mask_of_lem T i)))

    entries : tabulate (length (concepts_out T) / 6) (fields_at (concepts_out T)) ≡ T.entries
    entries = let n : length (concepts_out T) / 6 ≡ length T.entries = omega (arith, concepts_long T) in rw n (ext_get_or
        (fields_of top) _ _ (length_tabulate (length T.entries) (fields_at (concepts_out T)))
        (λ i h. at_tabulate (length T.entries) (fields_at (concepts_out T)) (fields_of top) i (omega (
          arith,
          length_tabulate (length
              T.entries) (fields_at (concepts_out T)),
        )) ∙ fields_of_lem T i))

    root : (o : Option ℕ) → is_set o ≡ true → some (root_of o) ≡ o
    root (some l) e = refl
    root none e = absurd (false≢true e)

    rules : tabulate (length (query_out T) - 1) (λ i. byte_at (query_out T) (i + 1)) ≡ T.rules
    rules = let n : length (query_out T) - 1 ≡ length T.rules = omega arith in rw n (ext_get_or 0 _ _ (length_tabulate (length
        T.rules) (λ i. byte_at (query_out T) (i + 1)))
        (λ i h. at_tabulate (length T.rules) (λ i. byte_at (query_out T) (i + 1)) 0 i (omega (
          arith,
          length_tabulate (length
              T.rules) (λ i. byte_at (query_out T) (i + 1)),
        )) ∙ rw (add-one i) refl))
