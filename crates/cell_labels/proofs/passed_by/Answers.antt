use Rattle.cell_labels.specs.CellLaws.{passed_from}
use Rattle.labels.specs.Labels.{value_of}
use Rattle.cell_labels.proofs.passed_by.Goals as goal

pub returns : goal.returns
returns c = let g = c.args in
    let e = c.empty in let h = c.put_if-out in
    passed_from (value_of e.result) (value_of h.result) (value_of c.put_if.result) (value_of g.x) g.f.0 g.l
    c.holds-held.result c.is_carried-on.result _
    e.ensures c.holds-held.ensures c.is_carried-on.ensures h.ensures c.put_if.ensures
