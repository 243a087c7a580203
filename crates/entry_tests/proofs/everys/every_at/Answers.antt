use Rattle.std.proofs.Common.{◌∙◌, ap}
use Rattle.entry_tests.specs.Everys.{every_at, every_by_is}
use Rattle.entry_tests.proofs.everys.every_at.Goals as goal

pub returns : goal.returns
returns c = c.every_ok.ensures
    ∙ every_by_is c.args.cs.now c.args.t.now _ _ _ c.args.e.0 _ c.fields_at.ensures.0 c.lower_roles-lower.ensures c.everys_of-held.ensures
    ∙ ap (λ n. every_at c.args.cs.now c.args.t.now n c.args.e.0) c.up_to.ensures.0
