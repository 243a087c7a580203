-- The answers of tests 2 to 8 and 26 in their order, for the code that stops at the first that fails.
use Rattle.std.specs.Prelude.{ℕ, ◌≡◌, true, false, List, Ok, Err}
use Rattle.std.proofs.Math.Path.{refl}
use Rattle.std.proofs.Common.{ap}
use Rattle.std.proofs.Math.Option.{Option}
use Rattle.logic.specs.Refusals.{Refusal}
use Rattle.parts.specs.Numbers.{up_to}
use Rattle.tables.specs.Tables.{records_in}
use Rattle.roles.specs.Ancestors.{role_count}
use Rattle.roles.specs.Records.{role_table}
use Rattle.roles.specs.declared.Role.{Role}
use Rattle.answers.specs.declared.Reason.TheVariants as is
use Rattle.answers.specs.Reasons.{refused}
use Rattle.answers.specs.Answers.{refusal_of, wholly}
use Rattle.directory.specs.Directory.{directory_test, roles_part, concepts_part, query_part, disjoint_part}
use Rattle.intake.specs.Intake.{sizes_test, bytes_test}
use Rattle.intake.specs.Steps.{roles_code, entries_code, simples_code, distincts_code, everys_code, query_code, disjoints_code, later_test, steps_test, steps_are}

module _ (cs qs ps : List ℕ) (t : List Role) (n : ℕ) where
  -- what tests 5 to 8 and 26 answer
  abbrev later : Option Refusal
  later = wholly (later_test cs qs ps t n)

  pub stops_5 : simples_code cs t ≡ false → refusal_of {A = Unit {0}} (Err (refused is.Simple 0)) ≡ later
  unfolding later_test
  stops_5 e = rw e refl

  pub stops_6 : simples_code cs t ≡ true → distincts_code cs ≡ false → refusal_of {A = Unit {0}} (Err (refused is.Twin 0)) ≡ later
  unfolding later_test
  stops_6 e5 e = rw (e5, e) refl

  pub stops_7 : simples_code cs t ≡ true → distincts_code cs ≡ true → everys_code cs t n ≡ false → refusal_of {A = Unit {0}} (Err (refused is.MissingEvery 0)) ≡ later
  unfolding later_test
  stops_7 e5 e6 e = rw (e5, e6, e) refl

  pub stops_8 : simples_code cs t ≡ true → distincts_code cs ≡ true → everys_code cs t n ≡ true → query_code cs qs ≡ false → refusal_of {A = Unit {0}} (Err (refused is.Question 0)) ≡ later
  unfolding later_test
  stops_8 e5 e6 e7 e = rw (e5, e6, e7, e) refl

  pub stops_26 : simples_code cs t ≡ true → distincts_code cs ≡ true → everys_code cs t n ≡ true → query_code cs qs ≡ true
      → disjoints_code ps t n ≡ false → refusal_of {A = Unit {0}} (Err (refused is.Disjoint 0)) ≡ later
  unfolding later_test
  stops_26 e5 e6 e7 e8 e = rw (e5, e6, e7, e8, e) refl

  pub stops_nowhere : simples_code cs t ≡ true → distincts_code cs ≡ true → everys_code cs t n ≡ true → query_code cs qs ≡ true
      → disjoints_code ps t n ≡ true → refusal_of (Ok (tt {0})) ≡ later
  unfolding later_test
  stops_nowhere e5 e6 e7 e8 e26 = rw (e5, e6, e7, e8, e26) refl

module _ (rs cs qs ps : List ℕ) (t : List Role) where
  -- what tests 2 to 8 and 26 answer
  abbrev steps : Option Refusal
  steps = wholly (steps_test rs cs qs ps t)

  pub stops_2 : sizes_test rs cs qs ps ≡ false → refusal_of {A = Unit {0}} (Err (refused is.Part 0)) ≡ steps
  unfolding steps_test
  stops_2 e = rw e refl

  pub stops_3 : sizes_test rs cs qs ps ≡ true → roles_code rs ≡ false → refusal_of {A = Unit {0}} (Err (refused is.Role 0)) ≡ steps
  unfolding steps_test
  stops_3 e2 e = rw (e2, e) refl

  pub stops_4 : sizes_test rs cs qs ps ≡ true → roles_code rs ≡ true → entries_code rs cs ≡ false → refusal_of {A = Unit {0}} (Err (refused is.Entry 0)) ≡ steps
  unfolding steps_test
  stops_4 e2 e3 e = rw (e2, e3, e) refl

  pub goes_on : sizes_test rs cs qs ps ≡ true → roles_code rs ≡ true → entries_code rs cs ≡ true → wholly (later_test cs qs ps t (up_to 16 (role_count rs))) ≡ steps
  unfolding steps_test
  goes_on e2 e3 e4 = rw (e2, e3, e4) refl

-- 1, then the parts, each from its own offset
pub stops_1 : (d : List ℕ) → directory_test d ≡ false → refusal_of {A = Unit {0}} (Err (refused is.Directory 0)) ≡ wholly (bytes_test d)
unfolding bytes_test
stops_1 d e = rw e refl

pub parts_on : (d rs cs qs ps : List ℕ) (t : List Role) → directory_test d ≡ true → rs ≡ roles_part d → cs ≡ concepts_part d → qs ≡ query_part d
    → ps ≡ records_in (disjoint_part d) → t ≡ role_table (roles_part d) → wholly (steps_test rs cs qs ps t) ≡ wholly (bytes_test d)
unfolding bytes_test
parts_on d rs cs qs ps t e p q r o tab = rw (e, p, q, r, o) (ap wholly (steps_are (roles_part d) (concepts_part d) (query_part d) (disjoint_part d) t tab))
