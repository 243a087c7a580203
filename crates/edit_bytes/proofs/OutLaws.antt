-- What the editor writes out is the description that was put in, and is accepted (02, job 4).
use Rattle.std.specs.Prelude.{ℕ, zero, suc, ◌+◌, ◌*◌, ◌≤◌, ◌<◌, refl, ◌↔◌, Bool, true, false, ◌&&◌, eqb, leb, get_or, take, drop}
use Rattle.std.proofs.Math.Path.{◌≡◌, fun_ext}
use Rattle.std.proofs.Common.{sym, ◌∙◌, ap, ap₂, arith, add-one}
use mathlib.Core.List.{List, [], ◌∷◌, ◌++◌, map, flatten}
use Rattle.std.proofs.Math.Option.{none}
use Rattle.std.proofs.Math.Decide.{dec_lt}
use Rattle.std.proofs.Math.ListN.{length, length-append, get_or-eq_default}
use Rattle.std.proofs.lemmas.List.{length-map}
use Rattle.logic.specs.Tests.{So, ◌⇒◌, so_leb, leb_so, reading}
use Rattle.logic.specs.Bounded.{all_below}
use Rattle.logic.specs.Refusals.{unless↔, refuse↔}
use Rattle.parts.specs.Numbers.{byte_at, num2}
use Rattle.parts.specs.Pairs.{offset_at, begin_at, Fills, fills↔}
use Rattle.laying.specs.Places.{Stands, stands_end, first, second, byte, part, stands_piece, before_even, before_all, at_map}
use Rattle.laying.specs.Numbers.{two}
use Rattle.laying.proofs.Numbers.{two_bytes}
use Rattle.description.specs.Literals.{Literal, literal}
use Rattle.description.specs.Descriptions.{Description, Entry, Fields, fields_of, top, entry_of_fields, same_fields}
use Rattle.description.specs.Acceptance.{description_tests, literal_test}
use Rattle.tables.specs.Tables.{fields_at, describe}
use Rattle.labels.specs.Labels.{most_entries}
use Rattle.directory.specs.Directory.{four, roles_part, concepts_part, query_part}
use Rattle.intake.specs.Intake.{described, three_pairs, most_roles, most_rules, sizes_test, records_test, parts_test, bytes_test}
use Rattle.intake.specs.Intake as Bytes
use Rattle.answers.specs.Answers.{wholly, answer, WRITTEN, told↔}
use Rattle.editing.specs.Editing.{tests, RoleIn, lone_role, Draft, role_in, fields_in, is_set, root_of, describes, role_form, entry_form, broken}
use Rattle.editing.specs.Editing.{Made}
use Rattle.editing.proofs.Kept.{broken_is, made_kept, Few, made_few}
use Rattle.edit_bytes.specs.Out.{role_bytes, entry_bytes, roles_out, concepts_out, query_out, pair, with_pairs, out_bytes, whole}
use Rattle.edit_bytes.specs.Out.{out_refused, out_answer}

-- ---- records of k bytes, one after another
module _ {A : Type 0} (k : ℕ) (write : A → List ℕ) (long : (x : A) → length (write x) ≡ k) (dflt : A) (xs : List A) where
  abbrev pieces : List (List ℕ)
  pieces = map write xs

  even : (i : ℕ) → i < length pieces → length (get_or pieces i []) ≡ k
  even i h = ap length (at_map write xs dflt [] i (rw (length-map xs write) at h)) ∙ long (get_or xs i dflt)

  pub records_long : length (flatten pieces) ≡ k * length xs
  records_long = sym (before_all pieces) ∙ before_even k pieces [] even (length pieces) (omega arith)
      ∙ ap (λ n. k * n) (length-map xs write)

  pub record_there : (i : ℕ) → i < length xs → Stands (flatten pieces) (k * i) (write (get_or xs i dflt))
  record_there i h = rw (← before_even k pieces [] even i (omega (arith, length-map xs write)), ← at_map write xs dflt [] i h)
      (stands_piece pieces [] i (rw (length-map xs write) h))

module _ (T : Draft) where
  abbrev rs : List ℕ
  rs = roles_out T

  abbrev cs : List ℕ
  cs = concepts_out T

  abbrev qs : List ℕ
  qs = query_out T

  abbrev out : List ℕ
  out = out_bytes T

  abbrev none_role : RoleIn
  none_role = lone_role 0

  -- ---- how long they are
  pub roles_long : length rs ≡ 3 * length T.roles
  unfolding roles_out
  roles_long = records_long 3 role_bytes (λ R. refl) none_role T.roles

  pub concepts_long : length cs ≡ 6 * length T.entries
  unfolding concepts_out
  concepts_long = records_long 6 entry_bytes (λ F. refl) (fields_of top) T.entries

  whole_length : length out ≡ 12 + length rs + length cs + length qs
  unfolding out_bytes
  whole_length = omega (arith, length-append rs (cs ++ qs), length-append cs qs)

  -- ---- where things stand
  all_there_lem : Stands out 0 (with_pairs rs cs qs)
  unfolding out_bytes
  all_there_lem = stands_end [] _

  rest_1 : Stands out 4 (pair (12 + length rs) cs ++ (pair (12 + length rs + length cs) qs ++ (rs ++ (cs ++ qs))))
  rest_1 = second (pair 12 rs) _ all_there_lem

  rest_2 : Stands out 8 (pair (12 + length rs + length cs) qs ++ (rs ++ (cs ++ qs)))
  rest_2 = second (pair (12 + length rs) cs) _ rest_1

  parts_there : Stands out 12 (rs ++ (cs ++ qs))
  parts_there = second (pair (12 + length rs + length cs) qs) _ rest_2

  pair_1 : Stands out 0 (pair 12 rs)
  pair_1 = first (pair 12 rs) _ all_there_lem

  pair_2 : Stands out 4 (pair (12 + length rs) cs)
  pair_2 = first (pair (12 + length rs) cs) _ rest_1

  pair_3 : Stands out 8 (pair (12 + length rs + length cs) qs)
  pair_3 = first (pair (12 + length rs + length cs) qs) _ rest_2

  pair_back : (at k : ℕ) (s : List ℕ) → Stands out k (pair at s) → (num2 out k ≡ at) × (num2 out (k + 2) ≡ length s)
  pair_back at k s h = (two_bytes.back at (first (two at) _ h), two_bytes.back (length s) (second (two at) _ h))

  -- 1: the three pairs fill it from 12
  out_fills : Fills out 0 3 12
  out_fills = (omega (arith, whole_length), (at, omega (arith, p3.0, p3.1, whole_length)))
    where
      p1 : (num2 out 0 ≡ 12) × (num2 out 2 ≡ length rs)
      p1 = pair_back 12 0 rs pair_1

      p2 : (num2 out 4 ≡ 12 + length rs) × (num2 out 6 ≡ length cs)
      p2 = pair_back (12 + length rs) 4 cs pair_2

      p3 : (num2 out 8 ≡ 12 + length rs + length cs) × (num2 out 10 ≡ length qs)
      p3 = pair_back (12 + length rs + length cs) 8 qs pair_3

      at : (i : ℕ) → i < 3 → offset_at out 0 i ≡ begin_at out 0 12 i
      at zero h = p1.0
      at (suc zero) h = omega (arith, p1.0, p1.1, p2.0)
      at (suc (suc zero)) h = omega (arith, p2.0, p2.1, p3.0)
      at (suc (suc (suc i))) h = absurd (omega arith)

  -- its first offset is 12, so there is no fourth
  pub no_fourth : four out ≡ false
  no_fourth = ap (λ n. eqb n 16) (out_fills.1.0 0 (omega arith))

  cut : (at k : ℕ) (s : List ℕ) → Stands out k (pair at s) → Stands out at s → take (num2 out (k + 2)) (drop (num2 out k) out) ≡ s
  cut at k s h g = let w = pair_back at k s h in rw (w.0, w.1) (part s g)

  pub roles_part_lem : roles_part (out_bytes T) ≡ roles_out T
  roles_part_lem = cut 12 0 rs pair_1 (first rs _ parts_there)

  pub concepts_part_lem : concepts_part (out_bytes T) ≡ concepts_out T
  concepts_part_lem = cut (12 + length rs) 4 cs pair_2 (first cs _ (second rs _ parts_there))

  pub query_part_lem : query_part (out_bytes T) ≡ query_out T
  query_part_lem = cut (12 + length rs + length cs) 8 qs pair_3 (second cs _ (second rs _ parts_there))

  -- ---- the fields, at every number: past the last one both sides are 0
  role_there : (r : ℕ) → r < length T.roles → Stands rs (3 * r) (role_bytes (role_in T r))
  unfolding roles_out
  role_there r h = record_there 3 role_bytes (λ R. refl) none_role T.roles r h

  entry_there : (e : ℕ) → e < length T.entries → Stands cs (6 * e) (entry_bytes (fields_in T e))
  unfolding concepts_out
  entry_there e h = record_there 6 entry_bytes (λ F. refl) (fields_of top) T.entries e h

  past : (s : List ℕ) (p : ℕ) → length s ≤ p → byte_at s p ≡ 0
  past s p h = get_or-eq_default s 0 h

  past_two : (s : List ℕ) (p : ℕ) → length s ≤ p → num2 s p ≡ 0
  past_two s p h = ap₂ (λ (a b : ℕ). a * 256 + b) (past s p h) (past s (p + 1) (omega arith))

  no_role_lem : (r : ℕ) → length T.roles ≤ r → none_role ≡ role_in T r
  no_role_lem r h = sym (get_or-eq_default T.roles none_role h)

  pub byte_of : (r : ℕ) → byte_at rs (3 * r) ≡ (role_in T r).transitive
  byte_of r = elim (dec_lt r (length T.roles)) [
    | yes h ↦ byte _ _ (role_there r h)
    | no h ↦ past rs (3 * r) (omega (arith, roles_long)) ∙ ap (λ R. R.transitive) (no_role_lem r (omega arith))
  ]

  pub mask_of_lem : (r : ℕ) → num2 rs (3 * r + 1) ≡ (role_in T r).parents
  mask_of_lem r = elim (dec_lt r (length T.roles)) [
    | yes h ↦ two_bytes.back (role_in T r).parents (second ((role_in T r).transitive ∷ []) (two (role_in T r).parents) (role_there r h))
    | no h ↦ past_two rs (3 * r + 1) (omega (arith, roles_long)) ∙ ap (λ R. R.parents) (no_role_lem r (omega arith))
  ]

  pub fields_of_lem : (e : ℕ) → fields_at cs e ≡ fields_in T e
  fields_of_lem e = elim (dec_lt e (length T.entries)) [
    | yes h ↦ (let k = entry_there e h in let F = fields_in T e in
        same (byte _ _ k) (byte _ _ (second (F.kind ∷ []) _ k)) (byte _ _ (second (F.kind ∷ F.role ∷ []) _ k))
        (byte _ _ (second (F.kind ∷ F.role ∷ F.first ∷ []) _ k))
        (two_bytes.back F.number (second (F.kind ∷ F.role ∷ F.first ∷ F.second ∷ []) _ k)))
    | no h ↦ (let l = concepts_long in let z : length T.entries ≤ e = omega arith in
        same (past cs (6 * e) (omega arith)) (past cs (6 * e + 1) (omega arith)) (past cs (6 * e + 2) (omega arith))
        (past cs (6 * e + 3) (omega arith)) (past_two cs (6 * e + 4) (omega arith))
        ∙ sym (get_or-eq_default T.entries (fields_of top) z))
  ]
    where
      same : {k r a b n k' r' a' b' n' : ℕ} → k ≡ k' → r ≡ r' → a ≡ a' → b ≡ b' → n ≡ n'
          → ◌≡◌ {A = Fields} (record { kind = k; role = r; first = a; second = b; number = n })
          (record { kind = k'; role = r'; first = a'; second = b'; number = n' })
      same p q s t u = rw (p, q, s, t, u) refl

  pub is_described : describe rs cs qs none ≡ describes T
  is_described = same (omega (arith, roles_long)) (fun_ext (λ r. ap (λ b. eqb b 1) (byte_of r))) (fun_ext mask_of_lem)
      (omega (arith, concepts_long))
      (fun_ext (λ e. ap entry_of_fields (fields_of_lem e))) (omega arith) (fun_ext (λ i. ap (λ j. literal (byte_at qs j)) (add-one i)))
    where
      of : ℕ → (ℕ → Bool) → (ℕ → ℕ) → ℕ → (ℕ → Entry) → ℕ → (ℕ → Literal) → Description
      of n t m c f k g = record {
        roles = n;
        transitive = t;
        parents = m;
        entries = c;
        entry = f;
        root = literal (root_of T.root);
        rules = k;
        rule = g;
        disjoints = 0;
        disjoint = λ i. record { one = 0; other = 0 };
        fourth = false;
      }

      same : {n n' : ℕ} {t t' : ℕ → Bool} {m m' : ℕ → ℕ} {c c' : ℕ} {f f' : ℕ → Entry} {k k' : ℕ} {g g' : ℕ → Literal}
          → n ≡ n' → t ≡ t' → m ≡ m' → c ≡ c' → f ≡ f' → k ≡ k' → g ≡ g' → of n t m c f k g ≡ of n' t' m' c' f' k' g'
      same p q r s u v w = rw (p, q, r, s, u, v, w) refl

  -- so the description that is written is the one that was put in
  pub out_described : described (out_bytes T) ≡ describes T
  out_described = (three_pairs out no_fourth).2 ∙ rw (roles_part_lem, concepts_part_lem, query_part_lem) is_described

  -- ---- and 1 to 8 say of it what 3 to 8 say of the draft, once there is a role, entry 0 and a root
  pub out_tests : Few T → So (whole T) → bytes_test (out_bytes T) ≡ broken T
  unfolding bytes_test parts_test sizes_test description_tests all_below
  out_tests few w = let three = three_pairs out no_fourth in
      rw (three.0, three.1, (fills↔ out 0 3 12).1 out_fills, roles_part_lem, concepts_part_lem, query_part_lem) (rw sizes (rest ∙ last))
    where
      there : (1 ≤ length T.roles) × ((1 ≤ length T.entries) × (So (is_set T.root)))
      there = simp reading at w

      sizes : So (records_test 3 most_roles rs && (records_test 6 most_entries cs && ((leb 1 (length qs) && leb (length qs) (1 + most_rules)) && true)))
      sizes = let l = roles_long in let k = concepts_long in let t = there in
          simp reading ((omega arith, (omega arith, omega arith)), ((omega arith, (omega arith, omega arith)), ((omega arith, omega arith), refl)))

      rest : description_tests (Bytes.role_form rs) (Bytes.entry_form cs) (describe rs cs qs none)
          ≡ description_tests (role_form T) (entry_form T) (describes T)
      rest = ap (description_tests (Bytes.role_form rs) (Bytes.entry_form cs)) is_described
          ∙ ap (λ f. description_tests f (Bytes.entry_form cs) (describes T)) (fun_ext (λ r. ap (λ b. leb b 1) (byte_of r)))
          ∙ ap (λ f. description_tests (role_form T) f (describes T))
          (fun_ext (λ e. ap (λ F. same_fields F (fields_of (entry_of_fields F))) (fields_of_lem e)))

      rules : Bool
      rules = all_below (length T.rules) (λ i. literal_test (describes T) ((describes T).rule i))

      last : description_tests (role_form T) (entry_form T) (describes T) ≡ broken T
      last = ap (λ b. tests (role_form T) (entry_form T) ((b ⇒ literal_test (describes T) (describes T).root) && rules) (describes T))
          (sym there.1.1) ∙ sym (broken_is T)

  -- so it is accepted
  pub out_accepted : Made T → So (whole T) → bytes_test (out_bytes T) ≡ none
  out_accepted m w = out_tests (made_few T m) w ∙ made_kept T m

  -- ---- exactly when it is written
  pub out_written↔ : (n : ℕ) → (out_answer T n ≡ answer WRITTEN none) ↔ (So (whole T) × (length (out_bytes T) ≤ n))
  unfolding out_refused
  out_written↔ n = let w = told↔ WRITTEN WRITTEN (wholly (out_refused T n)) (λ e. let z : ◌≡◌ {A = ℕ} 0 1 = cc in omega arith) in
      (λ e. room.0 (w.0 e).1, λ h. w.1 (refl, room.1 h))
    where
      room : (wholly (out_refused T n) ≡ none) ↔ (So (whole T) × (length (out_bytes T) ≤ n))
      room = (
        λ e. let a = (unless↔ (whole T) 2 _).0 ((refuse↔ 0 (out_refused T n) none).0 e).0 in
            (a.0, so_leb _ n ((unless↔ (leb (length out) n) 22 none).0 a.1).0),
        λ h. (refuse↔ 0 (out_refused T n) none).1
            ((unless↔ (whole T) 2 _).1 (h.0, (unless↔ (leb (length out) n) 22 none).1 (leb_so _ n h.1, refl)), refl),
      )
