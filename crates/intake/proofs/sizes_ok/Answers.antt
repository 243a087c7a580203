use Rattle.intake.specs.Steps.{sizes_read}
use Rattle.intake.proofs.sizes_ok.Goals as goal

pub returns : goal.returns
returns c = let g = c.args in
    sizes_read g.p.roles.now g.p.concepts.now g.p.query.now g.p.disjoint.now _ _ c.records_ok.ensures c.records_ok-2.ensures
