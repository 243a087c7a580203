use Rattle.std.proofs.Common.{◌∙◌, eqb, refl, rules, ap}
use Rattle.std.proofs.lemmas.Iterator.Consumers.{nth_from_yields_List}
use Rattle.std.proofs.lemmas.Iterator.Splits.{YieldsList-from_slice_split}
use Rattle.vector_rows.proofs.Fields.{field_or}
use Rattle.vector_rows.proofs.field.Goals as goal

pub returns : goal.returns
returns c =
    let s = c.split.ensures in
    ap (λ r. r.now) c.unwrap_or.ensures
    ∙ field_or c.args.mark c.args.k c.args.line.now _ _ refl (nth_from_yields_List _ _ _ c.nth.ensures.ran
    (YieldsList-from_slice_split _ (λ b. eqb b c.args.mark) _ s.rest s.done s.closure (λ x b q k. search rules)))
