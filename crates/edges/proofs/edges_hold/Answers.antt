use Prim.Native.Nat.{◌-◌}
use mathlib.Core.Path.{sym}
use mathlib.Core.Bool.{true}
use native.Mathlib.Omega.{arith}
use Rattle.logic.specs.Bounded.{all_none, all_stop, all_more, all_done}
use Rattle.edges.specs.EdgeSteps.{edge_with, edge_told}
use Rattle.edges.proofs.edges_hold.Goals as goal

pub loop-j-init : goal.loop-j-init
loop-j-init c = all_none _

pub returns-then-not-edge_ok : goal.returns-then-not-edge_ok
returns-then-not-edge_ok c = let p = c.args in let j = c.loop-j.j in
    sym (all_stop _ j _ (omega arith) (edge_told p.es.now j (edge_with p.a.now p.n p.size true) _ _ _
    c.edge_at.ensures.0 c.edge_ok.ensures (c.if-not-edge_ok.true)))

pub loop-j-preserved : goal.loop-j-preserved
loop-j-preserved c = let p = c.args in let v = c.loop-j in
    all_more _ v.j v.invariant (edge_told p.es.now v.j (edge_with p.a.now p.n p.size true) _ _ _
    c.edge_at.ensures.0 c.edge_ok.ensures (c.if-not-edge_ok.false))

pub returns : goal.returns
returns c = sym (all_done _ c.loop-j.j _ (omega arith) (omega arith) c.loop-j.invariant)
