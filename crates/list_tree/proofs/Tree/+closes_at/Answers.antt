use Rattle.std.proofs.Common.{◌∙◌, sym, ap, ◌+◌, ◌<◌, arith, set}
use Rattle.std.specs.Prelude.{Some}
use Rattle.parts.specs.Numbers.{byte_at, num2}
use Rattle.list_form.specs.FormSteps.{split_room}
use Rattle.list_leaf.specs.Leaf.{limits_held, marked}
use Rattle.list_tree.specs.TreeLaws.{closed_off, closed_leaf, closed_deep, closed_first, closed_second, fit_is_split, split_value}
use Rattle.list_tree.proofs.Ways.{put_first, put_second}
use Rattle.list_tree.proofs.Tree.+closes_at.Goals as goal

pub returns-then-left-eq0 : goal.returns-then-left-eq0
returns-then-left-eq0 t c = let a = c.args in let o = a.self.now in let w = a.way.now in
    closed_deep o.ds.now o.k (marked o.marks.now) w.len (limits_held o.k w.limits w.len) a.at a.left (omega arith) (sym (ap Some c.in-Splitting.is) ∙ c.in_ok-end.ensures.0)

pub low_half-requires : goal.low_half-requires
low_half-requires t c = let a = c.args in let o = a.self.now in let w = a.way.now in
    let f = fit_is_split o.ds.now o.k (marked o.marks.now) w.len (limits_held o.k w.limits w.len) a.at (sym (ap Some c.in-Splitting.is) ∙ c.in_ok-end.ensures.0) in
    split_room o.ds.now w.len a.at f.0

pub overflow_add-at : goal.overflow_add-at
overflow_add-at t c = let a = c.args in let o = a.self.now in let w = a.way.now in
    let f = fit_is_split o.ds.now o.k (marked o.marks.now) w.len (limits_held o.k w.limits w.len) a.at (sym (ap Some c.in-Splitting.is) ∙ c.in_ok-end.ensures.0) in
    let r = split_room o.ds.now w.len a.at f.0 in omega arith

pub returns-in_err-next-in-Splitting : goal.returns-in_err-next-in-Splitting
returns-in_err-next-in-Splitting t c = let a = c.args in let o = a.self.now in let w = a.way.now in let q = c.push.new.self in let e = c.push.ensures in
    let p = put_first w.limits q.limits w.len _ e.0 (omega (arith, c.requires.2, c.if-left-eq0.false)) c.requires.3 _ c.low_half.ensures in
    rw c.from_residual-in_err-next-in-Splitting.ensures
    (closed_first o.ds.now o.k (marked o.marks.now) w.len (limits_held o.k w.limits w.len) a.at a.left (sym (ap Some c.in-Splitting.is) ∙ c.in_ok-end.ensures.0)
    c.if-left-eq0.false (limits_held o.k q.limits (w.len + 1)) (p.held o.k c.requires.1) (rw e.1 at c.in_err-next-in-Splitting.ensures))

pub high_half-requires : goal.high_half-requires
high_half-requires t c = let a = c.args in let o = a.self.now in let w = a.way.now in
    let f = fit_is_split o.ds.now o.k (marked o.marks.now) w.len (limits_held o.k w.limits w.len) a.at (sym (ap Some c.in-Splitting.is) ∙ c.in_ok-end.ensures.0) in
    (split_room o.ds.now w.len a.at f.0, split_value o.k (marked o.marks.now) (byte_at o.ds.now (a.at + 1)) (num2 o.ds.now (a.at + 2)) f.1)

pub returns-in_err-end : goal.returns-in_err-end
returns-in_err-end t c = let a = c.args in let o = a.self.now in let w = a.way.now in
    rw c.from_residual.ensures (closed_off o.ds.now o.k (marked o.marks.now) w.len (limits_held o.k w.limits w.len) a.at a.left c.in_err-end.ensures.0)

pub returns-in-Closing : goal.returns-in-Closing
returns-in-Closing t c = let a = c.args in let o = a.self.now in let w = a.way.now in
    closed_leaf o.ds.now o.k (marked o.marks.now) w.len (limits_held o.k w.limits w.len) a.at a.left c.in-Closing.end (sym (ap Some c.in-Closing.is) ∙ c.in_ok-end.ensures.0)

pub returns-in_ok-next-in-Splitting : goal.returns-in_ok-next-in-Splitting
returns-in_ok-next-in-Splitting t c = let a = c.args in let o = a.self.now in let w = a.way.now in let q = c.push.new.self in let e = c.push.ensures in
    let few : w.len < 14 = omega (arith, c.requires.2, c.if-left-eq0.false) in
    let p = put_first w.limits q.limits w.len _ e.0 few c.requires.3 _ c.low_half.ensures in
    let r = put_second w.limits q.limits w.len _ e.0 few c.requires.3 c.high_half.result _ c.high_half.ensures in
    closed_second o.ds.now o.k (marked o.marks.now) w.len (limits_held o.k w.limits w.len) a.at a.left (sym (ap Some c.in-Splitting.is) ∙ c.in_ok-end.ensures.0)
    c.if-left-eq0.false
    (limits_held o.k q.limits (w.len + 1)) (limits_held o.k (set q.limits w.len c.high_half.result) (w.len + 1))
    c.in_ok-next-in-Splitting.next _ (p.held o.k c.requires.1) (r.held o.k c.requires.1)
    (rw e.1 at c.in_ok-next-in-Splitting.ensures) (rw e.1 at c.closes_at-in-Splitting.ensures)
