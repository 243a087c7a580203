-- The draft that a description of three pairs is (02, job 4).
use Prim.Native.Nat.{ℕ, ◌+◌, ◌-◌, ◌*◌, ◌/◌}
use mathlib.Core.List.{List}
use Rattle.std.proofs.Math.Option.{some}
use Rattle.std.proofs.Math.ListN.{length}
use Rattle.logic.specs.Lists.{tabulate}
use Rattle.parts.specs.Numbers.{byte_at, num2}
use Rattle.tables.specs.Tables.{fields_at}
use Rattle.directory.specs.Directory.{roles_part, concepts_part, query_part}
use Rattle.editing.specs.Editing.{RoleIn, Draft}

-- the role that stands there in a part of roles
abbrev pub role_of : List ℕ → ℕ → RoleIn
role_of rs r = record { transitive = byte_at rs (3 * r); parents = num2 rs (3 * r + 1) }

-- the draft that a description of three pairs is
abbrev pub draft_in : List ℕ → Draft
draft_in d = record {
  roles = tabulate (length (roles_part d) / 3) (role_of (roles_part d));
  entries = tabulate (length (concepts_part d) / 6) (fields_at (concepts_part d));
  root = some (byte_at (query_part d) 0);
  rules = tabulate (length (query_part d) - 1) (λ i. byte_at (query_part d) (i + 1));
}
