use Rattle.copies.specs.Copying.{edge_room, count_read, owner_start, owner_stop, owner_on, owner_end}
use Rattle.parts.specs.Numbers.{num2}
use native.Mathlib.Omega.{arith}
use mathlib.Core.Path.{◌∙◌, ap}
use Prim.Native.Nat.{◌+◌, ◌-◌}
use Rattle.copies.proofs.owner_mask.Goals as goal

pub loop-i-init : goal.loop-i-init
loop-i-init c = (
  c.edge_count-k.ensures.0,
  omega arith,
  omega arith,
  owner_start c.args.es.now
      c.args.y _ _ c.edge_count-k.ensures.0,
)

pub taken_at-taken-requires : goal.taken_at-taken-requires
taken_at-taken-requires c = let v = c.loop-i in
    edge_room c.args.es.now c.edge_count-k.result v.i _ (omega arith)
    (omega (arith, v.invariant.0)) v.invariant.2

pub returns-then-left-taken : goal.returns-then-left-taken
returns-then-left-taken c = let p = c.args in let v = c.loop-i in
    owner_stop p.es.now p.y _ v.i _ _ _ (omega arith)
    (count_read p.es.now p.y v.i _ _ v.invariant.2 c.taken_at-taken.ensures.0)
    (c.mask2.ensures ∙ ap (λ a. num2 p.es.now (a + 1)) v.invariant.2) c.if-left-taken.true ∙ v.invariant.3

pub loop-i-preserved : goal.loop-i-preserved
loop-i-preserved c = let p = c.args in let v = c.loop-i in (
  v.invariant.0,
  omega arith,
  omega arith,
  owner_on p.es.now p.y _ v.i _ _ (omega arith)
      (count_read p.es.now p.y v.i _ _ v.invariant.2 c.taken_at-taken.ensures.0) c.if-left-taken.false ∙ v.invariant.3,
)

pub returns : goal.returns
returns c = let p = c.args in
    owner_end p.es.now p.y _ _ _ c.loop-i-test.false ∙ c.loop-i.invariant.3
