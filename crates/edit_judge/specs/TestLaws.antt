-- The checker's tests of entries, on the bytes and records that the state holds, are the theory's tests of the draft: of every draft
-- within the limits whose entries keep 4.
use Rattle.std.specs.Prelude.{ℕ, ◌/◌, ◌≤◌, ◌<◌, ◌≡◌, refl, not, ◌&&◌, List, length}
use Rattle.std.proofs.Common.{sym, ◌∙◌, ap, arith}
use Rattle.std.proofs.Math.Option.{none}
use Rattle.logic.specs.Tests.{So}
use Rattle.logic.specs.Bounded.{all_below, all_elim}
use Rattle.parts.specs.Numbers.{up_to, up_to_all}
use Rattle.labels.specs.Labels.{most_entries}
use Rattle.description.specs.Descriptions.{fields_of, entry_of_fields, same_fields}
use Rattle.description.specs.Acceptance.{entries_test, entry_test, simples_test, simple_test, distinct_test, everys_test, every_below_test}
use Rattle.tables.specs.Tables.{fields_at, fields_test, describe}
use Rattle.roles.specs.Ancestors.{role_count}
use Rattle.roles.specs.Records.{role_table}
use Rattle.roles.specs.declared.Role.{Role}
use Rattle.entry_tests.specs.Everys.{every_at}
use Rattle.entry_tests.specs.Entries.{simple_at, twin_at}
use Rattle.intake.specs.Steps.{simples_code, everys_code, entries_are, simple_at_lem, distinct_at, every_at_lem, simples_are, everys_are}
use Rattle.editing.specs.Editing.{Draft, describes, entry_form}
use Rattle.editing.proofs.Kept.{Few}
use Rattle.edit_bytes.specs.Out.{roles_out, concepts_out, query_out}
use Rattle.edit_bytes.proofs.OutLaws.{roles_long, concepts_long, fields_of_lem, is_described}

module _ (U : Draft) (few : Few U) (ok : So (entries_test (entry_form U) (describes U))) where
  abbrev rs : List ℕ
  rs = roles_out U

  abbrev cs : List ℕ
  cs = concepts_out U

  abbrev qs : List ℕ
  qs = query_out U

  abbrev t : List Role
  t = role_table rs

  few_roles : length rs / 3 ≤ 16
  few_roles = omega (arith, few, roles_long U)

  few_entries : length cs / 6 ≤ most_entries
  few_entries = omega (arith, few, concepts_long U)

  fields_ok : (e : ℕ) → e < length cs / 6 → So (fields_test (length rs / 3) e (fields_at cs e))
  fields_ok e h = entries_are rs cs qs none e
      ∙ ap (λ F. same_fields F (fields_of (entry_of_fields F)) && entry_test (describe rs cs qs none) e (entry_of_fields F)) (fields_of_lem U e)
      ∙ ap (λ E. entry_form U e && entry_test E e ((describes U).entry e)) (is_described U)
      ∙ all_elim (length U.entries) _ ok e (omega (arith, concepts_long U))

  same_count : up_to 16 (length U.roles) ≡ up_to 16 (role_count rs)
  same_count = let e : length rs / 3 ≡ length U.roles = omega (arith, roles_long U) in
      ap (up_to 16) (sym (ap (up_to 16) e ∙ up_to_all 16 (length U.roles) few.0))

  -- 5 and 7 of all entries
  pub simples_held : simples_code cs t ≡ simples_test (describes U)
  simples_held = simples_are rs cs qs none t refl few_roles few_entries fields_ok ∙ ap simples_test (is_described U)

  pub everys_held : everys_code cs t (up_to 16 (length U.roles)) ≡ everys_test (describes U)
  everys_held = ap (everys_code cs t) same_count ∙ everys_are rs cs qs none t refl few_roles few_entries fields_ok
      ∙ ap everys_test (is_described U)

  -- 5, 6 and 7 of one
  module _ (e : ℕ) (h : e < length U.entries) where
    inside : e < length cs / 6
    inside = omega (arith, h, concepts_long U)

    pub simple_held : simple_at cs t e ≡ simple_test (describes U) ((describes U).entry e)
    simple_held = simple_at_lem rs cs qs none t refl few_roles few_entries fields_ok e inside
        ∙ ap (λ D. simple_test D (D.entry e)) (is_described U)

    pub distinct_held : all_below e (λ f. not (twin_at cs e f)) ≡ distinct_test (describes U) e ((describes U).entry e)
    distinct_held = distinct_at rs cs qs none t refl few_roles few_entries fields_ok e inside
        ∙ ap (λ D. distinct_test D e (D.entry e)) (is_described U)

    pub every_held : every_at cs t (up_to 16 (length U.roles)) e ≡ every_below_test (describes U) ((describes U).entry e)
    every_held = ap (λ n. every_at cs t n e) same_count ∙ every_at_lem rs cs qs none t refl few_roles few_entries fields_ok e inside
        ∙ ap (λ D. every_below_test D (D.entry e)) (is_described U)
