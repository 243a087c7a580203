-- The first trial of specs/Examples is accepted, and its line is a model.
use Rattle.std.specs.Prelude.{◌≡◌, refl, [], ◌∷◌}
use Rattle.std.proofs.Math.Option.{none}
use Rattle.logic.specs.Bounded.{all_below, any_below}
use Rattle.logic.specs.Closure.{closure}
use Rattle.logic.specs.Lists.{each}
use Rattle.logic.specs.Sets.{has, narrow}
use Rattle.logic.specs.Sums.{sum_below}
use Rattle.description.specs.Literals.{literal}
use Rattle.description.specs.Descriptions.{Description, compatible, same_entry, if_every, if_least}
use Rattle.description.specs.Roles.{ancestor, simple}
use Rattle.description.specs.Acceptance.{entry_test, description_refusal, description_tests}
use Rattle.description.specs.Examples.{table_of, lit}
use Rattle.interpretation.specs.Meaning.{meaning, truth_with, truth}
use Rattle.interpretation.specs.Models.{Model, Satisfies}
use Rattle.interpretation.specs.Reading.{includes, composes, separates, follows, satisfies, reads↔}
use Rattle.interpretation.specs.Examples.{two_roles, entries, line}

-- the first of them is accepted, and the line is a model of it that has the root
abbrev first : Description
first = table_of two_roles entries (lit 4) (lit 8 ∷ [])

first_accepted : description_refusal first ≡ none
unfolding description_tests all_below any_below narrow entry_test literal if_least if_every simple ancestor closure has same_entry
first_accepted = refl

first_model : Model first line × Satisfies first (first.root ∷ []) line
unfolding includes composes separates compatible follows satisfies all_below any_below each literal truth truth_with meaning sum_below has
first_model = (reads↔ first line (first.root ∷ [])).0 refl
