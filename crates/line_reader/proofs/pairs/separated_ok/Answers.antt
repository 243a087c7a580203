use Rattle.std.proofs.Common.{rules, refl, sym, ◌∙◌}
use Rattle.std.proofs.lemmas.Iterator.{YieldsList-from_range}
use Rattle.logic.proofs.Ranges.{all_range}
use Rattle.line_reader.specs.LineSteps.{none_separated}
use Rattle.line_reader.proofs.pairs.separated_ok.Goals as goal

pub returns-then-no_records : goal.returns-then-no_records
returns-then-no_records c = let l = c.args.l.now in none_separated c.args.a.now l.bytes.now l.rows l.size (sym c.no_records.ensures ∙ c.if-no_records.true)

pub returns : goal.returns
returns c = rw (← c.pair_count.ensures.0) (all_range _ _ _ _ _ c.all.ensures.ran (YieldsList-from_range 0 _ _ refl refl) (λ x b q e. search rules))
