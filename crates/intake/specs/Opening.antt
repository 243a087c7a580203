-- A description opened: what tests 1 to 8 and 26 refuse, and what the checker reads of every one: the masks of the role records (02, job 4) and of the fourth part (job 5), the entries and the query.
use Rattle.std.specs.Prelude.{ℕ, ◌≡◌, refl, List}
use Rattle.std.proofs.Math.Option.{Option, none, some, none-ne-some}
use Rattle.logic.specs.Refusals.{unless↔}
use Rattle.tables.specs.Tables.{records_in}
use Rattle.roles.specs.Ancestors.{role_count}
use Rattle.roles.specs.Records.{MasksOf}
use Rattle.answers.specs.Answers.{refusal_of, wholly}
use Rattle.directory.specs.Directory.{directory_test, four, roles_part, concepts_part, query_part, disjoint_part}
use Rattle.intake.specs.declared.Opening.{Opening}
use Rattle.intake.specs.Intake.{parts_test, bytes_test}

pub record Opens (d : List ℕ) (o : Opening) : Type 0 where
  pub tested : refusal_of o.tested ≡ wholly (bytes_test d)
  pub masks : MasksOf (roles_part d) (records_in (disjoint_part d)) o.masks
  pub count : o.count ≡ role_count (roles_part d)
  pub concepts : o.concepts.now ≡ concepts_part d
  pub query : o.query.now ≡ query_part d
  pub marks : o.marks ≡ four d

-- nothing refuses the description, and so nothing refuses its parts
pub wholly_none : (o : Option ℕ) → none ≡ wholly o → none ≡ o
wholly_none none e = refl
wholly_none (some n) e = absurd (none-ne-some _ e)

pub parts_fine : (d : List ℕ) → bytes_test d ≡ none → parts_test (roles_part d) (concepts_part d) (query_part d) (disjoint_part d) ≡ none
unfolding bytes_test
parts_fine d e = ((unless↔ (directory_test d) 1 (parts_test (roles_part d) (concepts_part d) (query_part d) (disjoint_part d))).0 e).1
