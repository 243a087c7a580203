-- A concept, put in: its six bytes behind the others, and 4 to 7 of the one new entry.
use Rattle.std.specs.Prelude.{ℕ, suc, ◌+◌, ◌*◌, ◌%◌, ◌≤◌, ◌<◌, ◌≡◌, refl, Bool, true, false, not, cond, ◌&&◌, List, [], ◌∷◌, ◌++◌, ltb, length, set, take, drop, replicate, Result, Ok, Err}
use Rattle.std.proofs.Common.{sym, ◌∙◌, ap₂, subst, inl, inr, arith, mod-eq_of_lt, lt-ltb, le-ltb}
use Rattle.std.proofs.Math.Path.{ap}
use Rattle.std.proofs.Math.Option.{none, some}
use Rattle.logic.specs.Tests.{So, so_ltb}
use Rattle.logic.specs.Bounded.{all_below}
use Rattle.logic.specs.Lists.{length_snoc, at_snoc_new}
use Rattle.logic.specs.Refusals.{unless, unless↔}
use Rattle.parts.specs.Numbers.{up_to}
use Rattle.labels.specs.Labels.{most_entries}
use Rattle.laying.specs.Laying.{laid}
use Rattle.description.specs.Descriptions.{Description, Entry, top, name, both, every, at_least, Fields, fields_of, entry_of_fields, same_fields}
use Rattle.description.specs.Acceptance.{EntryOk, entries_test, entry_test, simple_test, distinct_test, every_below_test}
use Rattle.tables.specs.Tables.{fields_test}
use Rattle.tables.proofs.Tables.{fields↔}
use Rattle.tables.specs.Concepts.{fields_in}
use Rattle.tables.specs.declared.Fields as Code
use Rattle.roles.specs.declared.Role.{Role}
use Rattle.roles.specs.Records.{role_table}
use Rattle.entry_tests.specs.Everys.{every_at}
use Rattle.entry_tests.specs.Entries.{simple_at, twin_at}
use Rattle.intake.specs.Steps.{fields_are}
use Rattle.answers.specs.declared.Reason.TheVariants as is
use Rattle.answers.specs.declared.Refusal.{Refusal}
use Rattle.answers.specs.Reasons.{refused}
use Rattle.answers.specs.Answers.{wholly, answer, DONE, of_change}
use Rattle.editing.specs.Editing.{Draft, is_set, describes, entry_form, concept, put_in, refusal, Made}
use Rattle.editing.proofs.Kept.{passed, Few, made_few}
use Rattle.editing.proofs.NewConcept.{grown, grows, new_entry, simple_same, distinct_same, entries_last}
use Rattle.editing.proofs.Answers.{concept_answers}
use Rattle.edit_bytes.specs.Out.{entry_bytes, roles_out, concepts_out, query_out}
use Rattle.edit_bytes.proofs.OutLaws.{concepts_long}
use Rattle.edit_lay.specs.Lays.{six_bytes}
use Rattle.edit_state.specs.Lent.{roles_room, concepts_room, query_room, concepts_from, filled, flag, in_bytes, draft_bytes, Lends}
use Rattle.edit_state.specs.Lent.{roles_in, entries_in, table_in, Told}
use Rattle.edit_state.specs.FillLaws.{filled_on, filled_first, filled_front, bytes_snoc}
use Rattle.edit_state.specs.PlaceLaws.{roles_count, entries_count, concepts_read, table_read, concepts_laid}
use Rattle.edit_judge.specs.Judging.{last_test}
use Rattle.edit_judge.specs.TestLaws.{simple_held, distinct_held, every_held}

-- a number that passes 4 has two bytes
number_small : (D : Description) (e : ℕ) (x : Entry) → EntryOk D e x → (fields_of x).number ≤ 1000
number_small D e top o = omega arith
number_small D e name o = omega arith
number_small D e (both a b) o = omega arith
number_small D e (every r l) o = omega arith
number_small D e (at_least r l n) o = o.1.1

-- 5, 6 and 7 in that order
last_answers : (a b c : Bool) → of_change (cond a (cond b (cond c (Ok tt) (Err (refused is.MissingEvery 0))) (Err (refused is.Twin 0))) (Err (refused is.Simple 0)))
    ≡ answer DONE (wholly (unless a 5 (unless b 6 (unless c 7 none))))
last_answers true true true = refl
last_answers true true false = refl
last_answers true false c = refl
last_answers false b c = refl

pub last_told : (cs : List ℕ) (e : ℕ) (t : List Role) (n : ℕ) (r : Result (Unit {0}) Refusal) → r ≡ last_test cs e t n → Told DONE (of_change r)
last_told cs e t n r q = rw q (one_of (simple_at cs t e) (all_below e (λ f. not (twin_at cs e f))) (every_at cs t n e))
  where
    one_of : (a b c : Bool) → Told DONE (of_change (cond a (cond b (cond c (Ok tt) (Err (refused is.MissingEvery 0))) (Err (refused is.Twin 0))) (Err (refused is.Simple 0))))
    one_of true true true = inl refl
    one_of true true false = inr (7, omega arith, refl)
    one_of true false c = inr (6, omega arith, refl)
    one_of false b c = inr (5, omega arith, refl)

-- ---- with 4 passed
module _ (T : Draft) (made : Made T) (f : Code.Fields) (room : length T.entries < most_entries)
    (four : fields_test (length T.roles) (length T.entries) (fields_in f) ≡ true) where
  abbrev F : Fields
  F = fields_in f

  abbrev D : Description
  D = describes T

  abbrev n : ℕ
  n = length T.entries

  abbrev U : Draft
  U = put_in T (concept F)

  six_are : six_bytes f ≡ entry_bytes F
  six_are = let w = (fields↔ D n F).0 four in let small : F.number ≤ 1000 = subst (λ x. x.number ≤ 1000) (sym w.1) (number_small D n w.0 w.2) in
      ap (λ a. f.kind ∷ f.role ∷ f.first ∷ f.second ∷ a ∷ f.number % 256 ∷ []) (mod-eq_of_lt (omega (arith, small)))

  longer : length U.entries ≡ suc n
  longer = length_snoc T.entries F

  entry_laid : laid (filled concepts_room (concepts_out T)) (6 * n) (six_bytes f) ≡ filled concepts_room (concepts_out U)
  unfolding concepts_out
  entry_laid = ap (laid (filled concepts_room (concepts_out T)) (6 * n)) six_are
      ∙ filled_on concepts_room (concepts_out T) (entry_bytes F) (6 * n) (sym (concepts_long T)) (omega (arith, concepts_long T, room))
      ∙ ap (filled concepts_room) (sym (bytes_snoc 6 entry_bytes (λ _. refl) T.entries F))

  few : Few U
  few = let m = made_few T made in (m.0, omega (arith, longer, room), m.2)

  ok : So (entries_test (entry_form U) (describes U))
  ok = ap (entries_test (entry_form U)) (grows T (passed made) F) ∙ entries_last T (passed made) F ∙ sym (fields_are D n F) ∙ four

  inside : n < length U.entries
  inside = omega (arith, longer)

  abbrev t : List Role
  t = role_table (roles_out T)

  simple_is : simple_at (concepts_out U) t n ≡ simple_test D (entry_of_fields F)
  unfolding roles_out
  simple_is = simple_held U few ok n inside ∙ ap (λ E. simple_test E (E.entry n)) (grows T (passed made) F)
      ∙ ap (simple_test (grown T (passed made) F)) (new_entry T (passed made) F) ∙ simple_same T (passed made) F (entry_of_fields F)

  distinct_is : all_below n (λ e. not (twin_at (concepts_out U) n e)) ≡ distinct_test D n (entry_of_fields F)
  distinct_is = distinct_held U few ok n inside ∙ ap (λ E. distinct_test E n (E.entry n)) (grows T (passed made) F)
      ∙ ap (distinct_test (grown T (passed made) F) n) (new_entry T (passed made) F) ∙ distinct_same T (passed made) F

  every_is : every_at (concepts_out U) t (up_to 16 (length T.roles)) n ≡ every_below_test (describes U) (entry_of_fields F)
  unfolding roles_out
  every_is = every_held U few ok n inside
      ∙ ap (λ F. every_below_test (describes U) (entry_of_fields F)) (at_snoc_new T.entries F (fields_of top))

  abbrev five : Bool
  five = simple_at (concepts_out U) t n

  abbrev six : Bool
  six = all_below n (λ e. not (twin_at (concepts_out U) n e))

  abbrev seven : Bool
  seven = every_at (concepts_out U) t (up_to 16 (length T.roles)) n

  refusal_is : refusal T (concept F) ≡ unless five 5 (unless six 6 (unless seven 7 none))
  refusal_is = concept_answers T made F
      ∙ rw (lt-ltb n most_entries room, sym (fields_are D n F) ∙ four, simple_is, distinct_is, every_is) refl

  last_is : of_change (last_test (concepts_out U) n t (up_to 16 (length T.roles))) ≡ answer DONE (wholly (refusal T (concept F)))
  last_is = last_answers five six seven ∙ sym (ap (λ o. answer DONE (wholly o)) refusal_is)

-- ---- what the code reads and makes
module _ (old : List ℕ) (f : Code.Fields) (n e : ℕ) (en : n ≡ roles_in old) (ee : e ≡ entries_in old)
    (T : Draft) (rest : List ℕ) (w : Lends old T rest) where
  counted : n ≡ length T.roles
  counted = en ∙ roles_count old T rest w

  entered : e ≡ length T.entries
  entered = ee ∙ entries_count old T rest w

  pub concept_full : most_entries ≤ e → refusal T (concept (fields_in f)) ≡ some 25
  concept_full k = concept_answers T w.made (fields_in f) ∙ rw (le-ltb (length T.entries) most_entries (omega (arith, entered))) refl

  fields_is : fields_test (length T.roles) (length T.entries) (fields_in f) ≡ fields_test n e (fields_in f)
  fields_is = ap₂ (λ c e. fields_test c e (fields_in f)) (sym counted) (sym entered)

  pub concept_4 : e < most_entries → fields_test n e (fields_in f) ≡ false → refusal T (concept (fields_in f)) ≡ some 4
  concept_4 k a = concept_answers T w.made (fields_in f)
      ∙ rw (
        lt-ltb (length T.entries) most_entries (omega (arith, entered)),
        sym (fields_are (describes T) (length T.entries) (fields_in f)) ∙ fields_is ∙ a,
      ) refl

  pub concept_last : (there cs : List ℕ) (t : List Role) → there ≡ take (6 * e) (drop concepts_from old)
      → cs ≡ take (6 * e + 6) (drop 0 (laid (laid (replicate concepts_room 0) 0 there) (6 * e) (six_bytes f))) → t ≡ table_in old
      → e < most_entries → fields_test n e (fields_in f) ≡ true
      → of_change (last_test cs e t (up_to 16 n)) ≡ answer DONE (wholly (refusal T (concept (fields_in f))))
  concept_last there cs t et ec eq room four =
      rw (cs_is, eq ∙ table_read old T rest w, entered, counted) (last_is T w.made f room' four')
    where
      room' : length T.entries < most_entries
      room' = omega (arith, entered, room)

      four' : fields_test (length T.roles) (length T.entries) (fields_in f) ≡ true
      four' = fields_is ∙ four

      there_is : there ≡ concepts_out T
      there_is = et ∙ concepts_read old T rest w e entered

      cs_is : cs ≡ concepts_out (U T w.made f room' four')
      cs_is = ec ∙ ap₂ (λ x e. take (6 * e + 6) (drop 0 (laid (laid (replicate concepts_room 0) 0 x) (6 * e) (six_bytes f)))) there_is entered
          ∙ ap (λ b. take (6 * length T.entries + 6) (drop 0 (laid b (6 * length T.entries) (six_bytes f))))
          (filled_first concepts_room (concepts_out T) (omega (arith, concepts_long T, room')))
          ∙ ap (λ b. take (6 * length T.entries + 6) (drop 0 b)) (entry_laid T w.made f room' four')
          ∙ filled_front concepts_room (concepts_out (U T w.made f room' four')) (6 * length T.entries + 6)
          (omega (arith, concepts_long (U T w.made f room' four'), longer T w.made f room' four'))

-- what is laid if nothing refuses
pub concept_put : (old : List ℕ) (f : Code.Fields) (e : ℕ) → e ≡ entries_in old → (T : Draft) (rest : List ℕ) → Lends old T rest
    → refusal T (concept (fields_in f)) ≡ none
    → laid (set old 1 (e + 1)) (concepts_from + 6 * e) (six_bytes f) ≡ draft_bytes (put_in T (concept (fields_in f))) ++ rest
unfolding draft_bytes roles_out
concept_put old f e ee T rest w a = ap₂ (λ o e. laid (set o 1 (e + 1)) (concepts_from + 6 * e) (six_bytes f)) w.same (ee
    ∙ entries_count old T rest w)
    ∙ concepts_laid T w.made (length T.roles) (length T.entries + 1) (flag (is_set T.root)) (length T.rules) rest
    (6 * length T.entries) (six_bytes f) (omega (arith, room))
    ∙ ap₂ (λ m cs. in_bytes (length T.roles) m (flag (is_set T.root)) (length T.rules) (filled roles_room (roles_out T)) cs
    (filled query_room (query_out T)) ++ rest)
    (let z : length T.entries + 1 ≡ length (T.entries ++ (F ∷ [])) = omega (arith, length_snoc T.entries F) in z)
    (entry_laid T w.made f room four)
  where
    F : Fields
    F = fields_in f

    n : ℕ
    n = length T.entries

    room : n < most_entries
    room = so_ltb n most_entries ((unless↔ (ltb n most_entries) 25 _).0 (sym (concept_answers T w.made F) ∙ a)).0

    four : fields_test (length T.roles) n F ≡ true
    four = fields_are (describes T) n F ∙ ((unless↔ (same_fields F (fields_of (entry_of_fields F)) && entry_test (describes T) n (entry_of_fields F))
        4 _).0 ((unless↔ (ltb n most_entries) 25 _).0 (sym (concept_answers T w.made F) ∙ a)).1).0
