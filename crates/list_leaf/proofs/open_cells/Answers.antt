use native.Mathlib.Omega.{arith}
use Prim.Native.Nat.{◌≤◌, ◌^◌}
use mathlib.Core.Path.{◌≡◌, refl, ◌∙◌, ap}
use Rattle.parts.specs.Numbers.{up_to_all}
use Rattle.list_leaf.specs.OpenLaws.{marks_none, marks_more, marks_many, marks_all}
use Rattle.list_leaf.proofs.open_cells.Goals as goal

pub returns-then-k-gt6 : goal.returns-then-k-gt6
returns-then-k-gt6 c = (refl, λ m h. marks_many c.args.cells.now c.args.k m (omega arith))

pub loop-c-init : goal.loop-c-init
loop-c-init c = marks_none _

pub loop-c-preserved : goal.loop-c-preserved
loop-c-preserved c = let v = c.loop-c in let a = c.args in
    marks_more a.cells.now v.c v.marks c.is_open.result (omega (arith, c.cell_count-c-end.ensures.1)) c.is_open.ensures v.invariant

pub returns : goal.returns
returns c = let v = c.loop-c in let a = c.args in let n = c.cell_count-c-end in
    let few : a.k ≤ 6 = omega arith in
    let e : n.result ≡ 2 ^ a.k = n.ensures.0 ∙ ap (λ m. 2 ^ m) (up_to_all 6 a.k few) in
    let z : v.c ≡ 2 ^ a.k = omega (arith, v.auto.c-end) in
    (v.invariant.size, λ m h. marks_all a.cells.now a.k v.c v.marks few z v.invariant m)
