-- The role records are true in every state that the operations make (02, job 4): a role has the byte and the parents that were put in, and
-- its ancestors and whether it is simple are those of the description so far.
use Rattle.std.specs.Prelude.{ℕ, ◌/◌, ◌≤◌, ◌<◌, ◌≡◌, refl, Bool, List, length}
use Rattle.std.proofs.Common.{◌∙◌, ap, arith}
use Rattle.std.proofs.Math.Option.{none}
use Rattle.description.specs.Roles.{simple}
use Rattle.roles.specs.declared.Role.{Role}
use Rattle.roles.specs.Ancestors.{ancestor_mask}
use Rattle.roles.specs.Records.{role_at, role_table, table_bytes, table_parents, table_masks, table_simple}
use Rattle.editing.specs.Editing.{Draft, role_in, describes, Made}
use Rattle.editing.proofs.Kept.{made_few}
use Rattle.edit_bytes.specs.Out.{roles_out, concepts_out, query_out}
use Rattle.edit_bytes.proofs.OutLaws.{roles_long, byte_of, mask_of_lem, is_described}
use Rattle.edit_state.specs.Lent.{Lends, table_in}
use Rattle.edit_state.specs.PlaceLaws.{table_read}

abbrev pub true_record : Draft → ℕ → Role
true_record T i = record {
  transitive = (role_in T i).transitive;
  parents = (role_in T i).parents;
  ancestors = ancestor_mask (describes T) i;
  simple = simple (describes T) i;
}

pub records_true : (T : Draft) → Made T → (t : List Role) → t ≡ role_table (roles_out T)
    → (i : ℕ) → i < length T.roles → role_at t i ≡ true_record T i
records_true T m t table i k = same (table_bytes rs t table i l ∙ byte_of T i) (table_parents rs t table i l ∙ mask_of_lem T i)
    (table_masks rs t table cs qs none few i l ∙ ap (λ D. ancestor_mask D i) (is_described T))
    (table_simple rs t table cs qs none few i l ∙ ap (λ D. simple D i) (is_described T))
  where
    rs : List ℕ
    rs = roles_out T

    cs : List ℕ
    cs = concepts_out T

    qs : List ℕ
    qs = query_out T

    l : i < 16
    l = omega (arith, made_few T m)

    few : length rs / 3 ≤ 16
    few = omega (arith, made_few T m, roles_long T)

    same : {R : Role} {t p a : ℕ} {b : Bool} → R.transitive ≡ t → R.parents ≡ p → R.ancestors ≡ a → R.simple ≡ b
        → R ≡ record { transitive = t; parents = p; ancestors = a; simple = b }
    same u v w x = rw (← u, ← v, ← w, ← x) refl

-- those that the operations make of lent bytes
pub lent_true : (bytes rest : List ℕ) (T : Draft) → Lends bytes T rest → (i : ℕ) → i < length T.roles → role_at (table_in bytes) i ≡ true_record T i
lent_true bytes rest T l = records_true T l.made (table_in bytes) (table_read bytes T rest l)
