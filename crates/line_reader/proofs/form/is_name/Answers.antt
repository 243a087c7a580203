use mathlib.Core.Path.{sym, ◌∙◌}
use Rattle.description.specs.Descriptions.{entry_of_fields}
use Rattle.tables.specs.Tables.{fields_at}
use Rattle.line_reader.specs.LineSteps.{name_told, name_not}
use Rattle.line_reader.proofs.form.is_name.Goals as goal

pub returns-in-Name : goal.returns-in-Name
returns-in-Name c = name_told (entry_of_fields (fields_at c.args.cs.now c.args.e.0)) (sym c.concept_at.ensures.0 ∙ c.in-Name.is)

pub returns-in_default : goal.returns-in_default
returns-in_default c = name_not (entry_of_fields (fields_at c.args.cs.now c.args.e.0)) (λ q. c.in_default.not-Name (c.concept_at.ensures.0 ∙ q))
