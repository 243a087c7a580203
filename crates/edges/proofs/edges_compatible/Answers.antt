use Rattle.std.proofs.Common.{sym, ◌∙◌, arith}
use Rattle.logic.specs.Bounded.{all_none, all_stop, all_more, all_done}
use Rattle.roles.specs.Disjoint.{compatible_by}
use Rattle.edges.specs.EdgeSteps.{edge_told, no_record}
use Rattle.edges.proofs.edges_compatible.Goals as goal

pub returns-then-no_records : goal.returns-then-no_records
returns-then-no_records c = let p = c.args in
    no_record p.a.now p.es.now p.k (sym c.no_records.ensures ∙ c.if-no_records.true)

pub loop-j-init : goal.loop-j-init
loop-j-init c = all_none _

pub returns-then-not-compatible : goal.returns-then-not-compatible
returns-then-not-compatible c = let p = c.args in let j = c.loop-j.j in
    sym (all_stop _ j _ (omega arith) (edge_told p.es.now j (λ E. compatible_by p.a.now E.mask) _ _ _
    c.edge_at.ensures.0 c.compatible.ensures c.if-not-compatible.true))

pub loop-j-preserved : goal.loop-j-preserved
loop-j-preserved c = let p = c.args in let v = c.loop-j in
    all_more _ v.j v.invariant (edge_told p.es.now v.j (λ E. compatible_by p.a.now E.mask) _ _ _
    c.edge_at.ensures.0 c.compatible.ensures c.if-not-compatible.false)

pub returns : goal.returns
returns c = sym (all_done _ c.loop-j.j _ (omega arith) (omega arith) c.loop-j.invariant)
