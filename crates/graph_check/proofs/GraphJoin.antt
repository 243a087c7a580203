-- For an accepted description, the tests that the code makes are those of GraphEvidence, where the root is wanted, too.
use Rattle.std.specs.Prelude.{ℕ, ◌≡◌, List}
use Rattle.std.proofs.Common.{◌∙◌, ap}
use Rattle.std.proofs.Math.Option.{Option, none}
use Rattle.description.specs.Descriptions.{wanted}
use Rattle.tables.specs.Tables.{records_in, describe}
use Rattle.roles.specs.Ancestors.{role_count}
use Rattle.roles.specs.Records.{MasksOf}
use Rattle.intake.specs.Intake.{parts_test, parts_accepted}
use Rattle.nodes.specs.NodeSteps.{root_set, root_is}
use Rattle.graph_check.specs.GraphEvidence.{graph_tests}
use Rattle.graph_check.specs.GraphSteps.{graph_code}
use Rattle.graph_check.specs.GraphJoin.{graph_is}

-- the same where the root is wanted
pub sample_is : (rs cs qs : List ℕ) (p : Option (List ℕ)) (a : List ℕ) (s : List ℕ) → MasksOf rs (records_in p) a
    → parts_test rs cs qs p ≡ none
    → graph_code a (role_count rs) cs qs (root_set qs) s ≡ graph_tests (describe rs cs qs p) (wanted (describe rs cs qs p)) s
sample_is rs cs qs p a s masks e = let k = parts_accepted rs cs qs p e in
    ap (λ M. graph_code a (role_count rs) cs qs M s) (root_is rs cs qs p k.1 k.2.root_in)
    ∙ graph_is rs cs qs p a (wanted (describe rs cs qs p)) s masks e
