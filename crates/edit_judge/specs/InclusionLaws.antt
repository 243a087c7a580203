-- An inclusion, put in: its one bit among the bytes, the records made anew, and 5 and 7 of the draft with it.
use Rattle.std.specs.Prelude.{ℕ, ◌+◌, ◌-◌, ◌*◌, ◌%◌, ◌<◌, ◌≡◌, refl, true, false, ◌&&◌, List, ◌∷◌, ◌++◌, ltb, length, take, drop, replicate}
use Rattle.std.proofs.Common.{sym, ◌∙◌, arith, mod-eq_of_lt, length-set}
use Rattle.std.proofs.Math.Path.{ap, ap₂}
use Rattle.std.proofs.Math.Option.{none, some}
use Rattle.std.proofs.Math.ListN.{get_or-append}
use Rattle.logic.specs.Tests.{So, and_l, and_r, so_ltb}
use Rattle.logic.specs.Sets.{with}
use Rattle.logic.specs.Refusals.{unless↔}
use Rattle.parts.specs.Numbers.{byte_at, up_to}
use Rattle.laying.specs.Numbers.{two}
use Rattle.laying.specs.Laying.{laid, laid_fits}
use Rattle.description.specs.Acceptance.{entries_test, simples_test, everys_test}
use Rattle.roles.specs.declared.Role.{Role}
use Rattle.roles.specs.Records.{role_table}
use Rattle.intake.specs.Steps.{simples_code, everys_code}
use Rattle.editing.specs.Editing.{RoleIn, Draft, is_set, role_in, describes, entry_form, inclusion, put_in, refusal, Made}
use Rattle.editing.proofs.Kept.{passed, Few, made_few, entries_roles}
use Rattle.editing.proofs.Answers.{inclusion_answers}
use Rattle.edit_bytes.specs.Out.{role_bytes, roles_out, concepts_out, query_out}
use Rattle.edit_bytes.proofs.OutLaws.{roles_long, byte_of, mask_of_lem}
use Rattle.edit_lay.specs.Lays.{with_parent}
use Rattle.edit_state.specs.Lent.{roles_room, concepts_room, query_room, roles_from, concepts_from, filled, flag, in_bytes, draft_bytes}
use Rattle.edit_state.specs.Lent.{Lends, roles_in, entries_in}
use Rattle.edit_state.specs.FillLaws.{filled_front, filled_first, filled_long, filled_set}
use Rattle.edit_state.specs.PlaceLaws.{enough, roles_count, entries_count, roles_read, concepts_read, role_byte_read, roles_laid}
use Rattle.edit_judge.specs.Judging.{table_with}
use Rattle.edit_judge.specs.TestLaws.{simples_held, everys_held}

-- bytes that are there are read where they are filled up
byte_filled : (size : ℕ) (x : List ℕ) (i : ℕ) → i < length x → byte_at (filled size x) i ≡ byte_at x i
unfolding filled
byte_filled size x i h = get_or-append x (replicate (size - length x) 0) 0 i h

module _ (T : Draft) (m : Made T) (r p : ℕ) (i : (ltb r (length T.roles) && ltb p (length T.roles)) ≡ true) where
  abbrev U : Draft
  U = put_in T (inclusion r p)

  abbrev changed : RoleIn
  changed = record { transitive = (role_in T r).transitive; parents = with (role_in T r).parents p }

  hr : r < length T.roles
  hr = so_ltb r _ (and_l (ltb r (length T.roles)) _ i)

  hp : p < length T.roles
  hp = so_ltb p _ (and_r (ltb r (length T.roles)) _ i)

  same_r : r % 16 ≡ r
  same_r = mod-eq_of_lt (omega (arith, hr, made_few T m))

  same_p : p % 16 ≡ p
  same_p = mod-eq_of_lt (omega (arith, hp, made_few T m))

  as_many : length U.roles ≡ length T.roles
  as_many = length-set T.roles r changed

  -- the three bytes, wherever they are read
  three_are : (t a b : ℕ) → t ≡ byte_at (filled roles_room (roles_out T)) (3 * r) → a ≡ byte_at (filled roles_room (roles_out T)) (3 * r + 1)
      → b ≡ byte_at (filled roles_room (roles_out T)) (3 * r + 1 + 1) → (t ∷ two (with (a * 256 + b) p)) ≡ role_bytes changed
  three_are t a b e f g = ap₂ (λ t m. t ∷ two (with m p))
      (e ∙ byte_filled roles_room (roles_out T) (3 * r) (omega (arith, hr, roles_long T)) ∙ byte_of T r)
      (ap₂ (λ (a b : ℕ). a * 256 + b) (f ∙ byte_filled roles_room (roles_out T) (3 * r + 1) (omega (arith, hr, roles_long T)))
      (g ∙ byte_filled roles_room (roles_out T) (3 * r + 1 + 1) (omega (arith, hr, roles_long T))) ∙ mask_of_lem T r)

  role_laid : laid (filled roles_room (roles_out T)) (3 * r) (role_bytes changed) ≡ filled roles_room (roles_out U)
  unfolding roles_out
  role_laid = filled_set 3 role_bytes (λ R. refl) roles_room T.roles r changed hr (omega (arith, roles_long U, roles_long T, as_many))

  parent_laid : with_parent (filled roles_room (roles_out T)) (3 * r) p ≡ filled roles_room (roles_out U)
  parent_laid = laid_fits (filled roles_room (roles_out T)) (3 * r) _ (omega (arith, hr, made_few T m, long))
      ∙ ap (laid (filled roles_room (roles_out T)) (3 * r)) (three_are _ _ _ refl refl refl) ∙ role_laid
    where
      long : length (filled roles_room (roles_out T)) ≡ roles_room
      long = filled_long roles_room (roles_out T) (omega (arith, made_few T m, roles_long T))

  table_is : table_with (roles_out T) (r % 16) (p % 16) ≡ role_table (roles_out U)
  table_is = ap₂ (table_with (roles_out T)) same_r same_p
      ∙ ap (λ b. role_table (take (length (roles_out T)) (drop 0 (with_parent b (3 * r) p))))
      (filled_first roles_room (roles_out T) (omega (arith, roles_long T, made_few T m)))
      ∙ ap (λ b. role_table (take (length (roles_out T)) (drop 0 b))) parent_laid
      ∙ ap role_table (filled_front roles_room (roles_out U) (length (roles_out T)) (omega (arith, roles_long U, roles_long T, as_many)))

  few : Few U
  few = let w = made_few T m in (omega (arith, as_many), w.1, w.2)

  ok : So (entries_test (entry_form U) (describes U))
  ok = entries_roles T (passed m) (describes U) as_many

  simples_is : simples_code (concepts_out T) (table_with (roles_out T) (r % 16) (p % 16)) ≡ simples_test (describes U)
  unfolding concepts_out
  simples_is = ap (simples_code (concepts_out T)) table_is ∙ simples_held U few ok

  everys_is : everys_code (concepts_out T) (table_with (roles_out T) (r % 16) (p % 16)) (up_to 16 (length T.roles))
      ≡ everys_test (describes U)
  unfolding concepts_out
  everys_is = ap₂ (λ t n. everys_code (concepts_out T) t (up_to 16 n)) table_is (sym as_many) ∙ everys_held U few ok

-- ---- what the code reads and makes
module _ (old : List ℕ) (r p n : ℕ) (e : n ≡ roles_in old) (T : Draft) (rest : List ℕ) (w : Lends old T rest) where
  counted : n ≡ length T.roles
  counted = e ∙ roles_count old T rest w

  same_test : (ltb r (length T.roles) && ltb p (length T.roles)) ≡ (ltb r n && ltb p n)
  same_test = ap (λ n. ltb r n && ltb p n) (sym counted)

  pub inclusion_past : (ltb r n && ltb p n) ≡ false → refusal T (inclusion r p) ≡ some 3
  inclusion_past i = inclusion_answers T w.made r p ∙ rw (same_test ∙ i) refl

  module _ (rs cs : List ℕ) (t : List Role) (k : ℕ) (er : rs ≡ take (3 * n) (drop roles_from old)) (ek : k ≡ entries_in old)
      (ec : cs ≡ take (6 * k) (drop concepts_from old)) (et : t ≡ table_with rs (r % 16) (p % 16)) (i : (ltb r n && ltb p n) ≡ true) where
    table : t ≡ table_with (roles_out T) (r % 16) (p % 16)
    table = et ∙ ap (λ rs. table_with rs (r % 16) (p % 16)) (er ∙ roles_read old T rest w n counted)

    concepts : cs ≡ concepts_out T
    concepts = ec ∙ concepts_read old T rest w k (ek ∙ entries_count old T rest w)

    simples : simples_code cs t ≡ simples_test (describes (put_in T (inclusion r p)))
    simples = ap₂ simples_code concepts table ∙ simples_is T w.made r p (same_test ∙ i)

    everys : everys_code cs t (up_to 16 n) ≡ everys_test (describes (put_in T (inclusion r p)))
    everys = ap₂ (λ c t. everys_code c t (up_to 16 n)) concepts table
        ∙ ap (λ n. everys_code (concepts_out T) (table_with (roles_out T) (r % 16) (p % 16)) (up_to 16 n)) counted
        ∙ everys_is T w.made r p (same_test ∙ i)

    pub inclusion_5 : simples_code cs t ≡ false → refusal T (inclusion r p) ≡ some 5
    inclusion_5 a = inclusion_answers T w.made r p ∙ rw (same_test ∙ i, sym simples ∙ a) refl

    pub inclusion_7 : simples_code cs t ≡ true → everys_code cs t (up_to 16 n) ≡ false → refusal T (inclusion r p) ≡ some 7
    inclusion_7 a b = inclusion_answers T w.made r p ∙ rw (same_test ∙ i, sym simples ∙ a, sym everys ∙ b) refl

    pub inclusion_passes : simples_code cs t ≡ true → everys_code cs t (up_to 16 n) ≡ true → refusal T (inclusion r p) ≡ none
    inclusion_passes a b = inclusion_answers T w.made r p ∙ rw (same_test ∙ i, sym simples ∙ a, sym everys ∙ b) refl

-- what is laid if nothing refuses
pub inclusion_put : (old : List ℕ) (r p : ℕ) (T : Draft) (rest : List ℕ) → Lends old T rest → refusal T (inclusion r p) ≡ none
    → with_parent old (roles_from + 3 * (r % 16)) (p % 16) ≡ draft_bytes (put_in T (inclusion r p)) ++ rest
unfolding draft_bytes concepts_out
inclusion_put old r p T rest w a = ap₂ (λ r p. with_parent old (roles_from + 3 * r) p) (same_r T w.made r p i) (same_p T w.made r p i)
    ∙ laid_fits old (roles_from + 3 * r) _ (omega (arith, enough old T rest w, small))
    ∙ ap (laid old (roles_from + 3 * r)) (three_are T w.made r p i _ _ _ (read (3 * r) (omega (arith, small)))
    (ap (byte_at old) (let z : roles_from + 3 * r + 1 ≡ roles_from + (3 * r + 1) = omega arith in z) ∙ read (3 * r + 1) (omega (arith, small)))
    (ap (byte_at old) (let z : roles_from + 3 * r + 1 + 1 ≡ roles_from + (3 * r + 1 + 1) = omega arith in z) ∙ read (3 * r + 1 + 1) (omega
    (arith, small))))
    ∙ ap (λ o. laid o (roles_from + 3 * r) new) w.same
    ∙ roles_laid T w.made (length T.roles) (length T.entries) (flag (is_set T.root)) (length T.rules) rest
    (3 * r) new (omega (arith, small))
    ∙ ap₂ (λ n rs. in_bytes n (length T.entries) (flag (is_set T.root)) (length T.rules) rs (filled concepts_room (concepts_out T))
    (filled query_room (query_out T)) ++ rest) (sym (as_many T w.made r p i)) (role_laid T w.made r p i)
  where
    i : (ltb r (length T.roles) && ltb p (length T.roles)) ≡ true
    i = ((unless↔ (ltb r (length T.roles) && ltb p (length T.roles)) 3 _).0 (sym (inclusion_answers T w.made r p) ∙ a)).0

    small : r < 16
    small = omega (arith, hr T w.made r p i, made_few T w.made)

    new : List ℕ
    new = role_bytes (changed T w.made r p i)

    read : (j : ℕ) → j < roles_room → byte_at old (roles_from + j) ≡ byte_at (filled roles_room (roles_out T)) j
    read = role_byte_read old T rest w
