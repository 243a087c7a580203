use Rattle.std.proofs.Common.{rules, refl, ◌∙◌}
use Rattle.std.proofs.Math.Bool.{not}
use Rattle.std.proofs.lemmas.Iterator.{YieldsList-from_range}
use Rattle.logic.proofs.Ranges.{all_range}
use Rattle.description.specs.Descriptions.{same_fields}
use Rattle.tables.specs.Concepts.{fields_in}
use Rattle.tables.specs.Tables.{fields_at}
use Rattle.entry_tests.specs.Entries.{twins_here, no_twin}
use Rattle.entry_tests.proofs.distinct_ok.Goals as goal

pub returns-then-b-lt2 : goal.returns-then-b-lt2
returns-then-b-lt2 c = no_twin c.args.cs.now c.args.f.0 _ c.fields_at-b.ensures.0 c.if-b-lt2.true

pub returns : goal.returns
returns c = all_range (λ e. not (same_fields (fields_at c.args.cs.now e) (fields_in c.fields_at-b.result))) _ _ _ _ c.all.ensures.ran
    (YieldsList-from_range 0 _ _ refl refl) (λ x b q e. search rules)
    ∙ twins_here c.args.cs.now c.args.f.0 _ c.fields_at-b.ensures.0 c.if-b-lt2.false
