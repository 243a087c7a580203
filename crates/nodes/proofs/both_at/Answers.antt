use mathlib.Core.Path.{◌∙◌, sym, ap}
use Rattle.labels.specs.Labels.{value_of}
use Rattle.nodes.specs.NodeSteps.{parts_in, of_both, both_read, other_read}
use Rattle.nodes.proofs.both_at.Goals as goal

pub returns-in-Both : goal.returns-in-Both
returns-in-Both c = let p = parts_in (value_of c.args.x) c.args.e.0 in c.parts_in.ensures ∙ ap (of_both p) (sym c.in-Both.is) ∙ both_read c.args.cs.now p c.args.e.0 _ c.concept_at.ensures.0

pub returns-in_default : goal.returns-in_default
returns-in_default c = other_read c.args.cs.now (parts_in (value_of c.args.x) c.args.e.0) c.args.e.0 _ c.concept_at.ensures.0 c.in_default.not-Both
