use Rattle.list_tree.proofs.Ways.{put_first, put_second}
use Rattle.list_tree.specs.TreeLaws.{closed_first, closed_second, fit_is_split, split_value}
use Rattle.list_leaf.specs.Leaf.{limits_held, marked}
use Rattle.list_form.specs.FormSteps.{split_room}
use Rattle.parts.specs.Numbers.{byte_at, num2}
use lib.ListN.{set}
use native.Mathlib.Omega.{arith}
use Prim.Native.Nat.{◌+◌, ◌<◌}
use Rattle.list_tree.proofs.Tree.halves_close.Goals.{After-push}
use Rattle.list_tree.proofs.Tree.halves_close.Goals as goal

pub low_half-requires : goal.low_half-requires
low_half-requires c = let a = c.args in let o = a.self.now in let w = a.way.now in
    let f = fit_is_split o.ds.now o.k (marked o.marks.now) o.k (limits_held o.k w.limits o.k) a.at c.requires.4 in
    split_room o.ds.now o.k a.at f.0

pub overflow_add-at : goal.overflow_add-at
overflow_add-at c = let a = c.args in let o = a.self.now in let w = a.way.now in
    let f = fit_is_split o.ds.now o.k (marked o.marks.now) o.k (limits_held o.k w.limits o.k) a.at c.requires.4 in
    let r = split_room o.ds.now o.k a.at f.0 in omega arith

-- the way has the rows alone
few : (c : After-push) → c.args.way.now.len < 14
few c = omega (arith, c.requires.0, c.requires.1)

pub returns-in_err-next : goal.returns-in_err-next
returns-in_err-next c = let a = c.args in let o = a.self.now in let w = a.way.now in let q = c.push.new.self in let e = c.push.ensures in
    let p = put_first w.limits q.limits w.len _ e.0 (few (goal.at.returns-in_err-next c).After-push) c.requires.2 _ c.low_half.ensures in
    rw c.from_residual.ensures (closed_first o.ds.now o.k (marked o.marks.now) o.k (limits_held o.k w.limits o.k) a.at 8 c.requires.4
    (λ z. omega arith)
    (limits_held o.k q.limits (o.k + 1)) (rw c.requires.1 at (p.held o.k (omega (arith, c.requires.1)))) (rw (e.1, c.requires.1) at c.in_err-next.ensures))

pub high_half-requires : goal.high_half-requires
high_half-requires c = let a = c.args in let o = a.self.now in let w = a.way.now in
    let f = fit_is_split o.ds.now o.k (marked o.marks.now) o.k (limits_held o.k w.limits o.k) a.at c.requires.4 in (
      split_room o.ds.now o.k a.at f.0,
      split_value o.k (marked o.marks.now) (byte_at o.ds.now (a.at + 1))
          (num2 o.ds.now (a.at + 2)) f.1,
    )

pub returns : goal.returns
returns c = let a = c.args in let o = a.self.now in let w = a.way.now in let q = c.push.new.self in let e = c.push.ensures in
    let l = few (goal.at.returns c).After-push in
    let p = put_first w.limits q.limits w.len _ e.0 l c.requires.2 _ c.low_half.ensures in
    let r = put_second w.limits q.limits w.len _ e.0 l c.requires.2 c.high_half.result _ c.high_half.ensures in
    closed_second o.ds.now o.k (marked o.marks.now) o.k (limits_held o.k w.limits o.k) a.at 8 c.requires.4
    (λ z. omega arith)
    (limits_held o.k q.limits (o.k + 1)) (limits_held o.k (set q.limits o.k c.high_half.result) (o.k + 1))
    c.in_ok-next.next _ (rw c.requires.1 at (p.held o.k (omega (arith, c.requires.1)))) (rw c.requires.1 at (r.held o.k (omega (arith, c.requires.1))))
    (rw (e.1, c.requires.1) at c.in_ok-next.ensures) (rw (e.1, c.requires.1) at c.closes_at-2.ensures)
