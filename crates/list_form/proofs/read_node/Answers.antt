use native.Mathlib.Omega.{arith}
use Rattle.list_form.specs.FormSteps.{node_told, node_past, node_leaf, node_cut, node_split, node_off}
use Rattle.list_form.proofs.read_node.Goals as goal

pub returns-then-ds-at : goal.returns-then-ds-at
returns-then-ds-at c = let p = c.args in node_told p.ds.now p.limits p.at _ (node_past p.ds.now p.limits p.at (omega arith))

pub returns-then-ds-end : goal.returns-then-ds-end
returns-then-ds-end c = let p = c.args in node_told p.ds.now p.limits p.at _ (node_cut p.ds.now p.limits p.at _ c.byte-tag.ensures (omega arith) (omega arith) (omega arith))

pub returns-then-tag-eq0 : goal.returns-then-tag-eq0
returns-then-tag-eq0 c = let p = c.args in node_told p.ds.now p.limits p.at _ (node_leaf p.ds.now p.limits p.at _ c.byte-tag.ensures (omega arith) (omega arith) (omega arith))

pub returns-then-split : goal.returns-then-split
returns-then-split c = let p = c.args in node_told p.ds.now p.limits p.at _ (node_split p.ds.now p.limits p.at _ c.byte-tag.ensures (omega arith) (λ e. omega arith) c.if-split.true)

pub returns : goal.returns
returns c = let p = c.args in node_told p.ds.now p.limits p.at _ (node_off p.ds.now p.limits p.at _ c.byte-tag.ensures (omega arith) (λ e. omega arith) c.if-split.false)
