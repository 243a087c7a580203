use mathlib.Core.Bool.{true, false}
use Prim.Native.Nat.{◌+◌, ◌≤◌}
use mathlib.Core.Path.{◌≡◌, ◌∙◌, sym, ap}
use Rattle.std.specs.Prelude.{Some}
use native.Mathlib.Omega.{arith}
use lib.ListN.{length}
use Rattle.parts.specs.Numbers.{byte_at, num2}
use Rattle.list_form.specs.FormSteps.{leaf_room, split_room}
use Rattle.list_leaf.specs.Leaf.{limits_held, marked}
use Rattle.list_tree.specs.TreeLaws.{fit_leaf, fit_split, fit_off, fit_told, split_among}
use Rattle.list_tree.specs.HeldLaws.{leaf_part}
use Rattle.list_tree.proofs.Tree.fit_node.Goals.{In-Leaf}
use Rattle.list_tree.proofs.Tree.fit_node.Goals as goal

-- a leaf's bytes are there
room : (c : In-Leaf) → (c.in-Leaf.end ≡ c.args.at + 1 + c.args.way.now.len)
    × (c.in-Leaf.end ≤ length c.args.self.now.ds.now)
room c = let a = c.args in let o = a.self.now in let w = a.way.now in
    leaf_room o.ds.now w.len a.at c.in-Leaf.end (sym (ap Some c.in-Leaf.is) ∙ c.in_ok-end.ensures.0)

pub overflow_add-at : goal.overflow_add-at
overflow_add-at c = let r = room (goal.at.overflow_add-at c).In-Leaf in omega arith

pub slice_bounds-leaf_closes-count : goal.slice_bounds-leaf_closes-count
slice_bounds-leaf_closes-count c = let r = room (goal.at.slice_bounds-leaf_closes-count c).In-Leaf in omega arith

pub slice_bounds-leaf_closes-start : goal.slice_bounds-leaf_closes-start
slice_bounds-leaf_closes-start c = let r = room (goal.at.slice_bounds-leaf_closes-start c).In-Leaf in omega arith

pub slice_bounds-leaf_closes-end : goal.slice_bounds-leaf_closes-end
slice_bounds-leaf_closes-end c = let r = room (goal.at.slice_bounds-leaf_closes-end c).In-Leaf in omega arith

pub split_fits-requires : goal.split_fits-requires
split_fits-requires c = let a = c.args in let o = a.self.now in let w = a.way.now in split_room o.ds.now w.len a.at (sym (ap Some c.in-Split.is) ∙ c.in_ok-end.ensures.0)

pub returns-in_err-end : goal.returns-in_err-end
returns-in_err-end c = let a = c.args in let o = a.self.now in let w = a.way.now in
    rw c.from_residual.ensures (fit_told _ _ (fit_off o.ds.now o.k (marked o.marks.now) w.len (limits_held o.k w.limits w.len) a.at c.in_err-end.ensures.0))

pub returns-then-leaf_closes : goal.returns-then-leaf_closes
returns-then-leaf_closes c = let a = c.args in let o = a.self.now in let w = a.way.now in let r = room (goal.at.returns-then-leaf_closes c).In-Leaf in
    fit_told _ _ (fit_leaf o.ds.now o.k (marked o.marks.now) w.len (limits_held o.k w.limits w.len) a.at c.in-Leaf.end true (sym (ap Some c.in-Leaf.is) ∙ c.in_ok-end.ensures.0)
    (sym c.if-leaf_closes.true ∙ c.leaf_closes.ensures ∙ leaf_part o.ds.now o.marks.now o.k w.len a.at c.in-Leaf.end w.limits (omega arith) (omega arith) (omega arith) c.requires.3 r.0 r.1))

pub returns-else-leaf_closes : goal.returns-else-leaf_closes
returns-else-leaf_closes c = let a = c.args in let o = a.self.now in let w = a.way.now in let r = room (goal.at.returns-else-leaf_closes c).In-Leaf in
    fit_told _ _ (fit_leaf o.ds.now o.k (marked o.marks.now) w.len (limits_held o.k w.limits w.len) a.at c.in-Leaf.end false (sym (ap Some c.in-Leaf.is) ∙ c.in_ok-end.ensures.0)
    (sym c.if-leaf_closes.false ∙ c.leaf_closes.ensures ∙ leaf_part o.ds.now o.marks.now o.k w.len a.at c.in-Leaf.end w.limits (omega arith) (omega arith) (omega arith) c.requires.3 r.0 r.1))

pub returns-then-split_fits : goal.returns-then-split_fits
returns-then-split_fits c = let a = c.args in let o = a.self.now in let w = a.way.now in
    fit_told _ _ (fit_split o.ds.now o.k (marked o.marks.now) w.len (limits_held o.k w.limits w.len) a.at true (sym (ap Some c.in-Split.is) ∙ c.in_ok-end.ensures.0)
    (sym c.if-split_fits.true ∙ c.split_fits.ensures ∙ split_among o.k o.marks.now (byte_at o.ds.now (a.at + 1)) (num2 o.ds.now (a.at + 2)) (omega arith) c.requires.3))

pub returns-else-split_fits : goal.returns-else-split_fits
returns-else-split_fits c = let a = c.args in let o = a.self.now in let w = a.way.now in
    fit_told _ _ (fit_split o.ds.now o.k (marked o.marks.now) w.len (limits_held o.k w.limits w.len) a.at false (sym (ap Some c.in-Split.is) ∙ c.in_ok-end.ensures.0)
    (sym c.if-split_fits.false ∙ c.split_fits.ensures ∙ split_among o.k o.marks.now (byte_at o.ds.now (a.at + 1)) (num2 o.ds.now (a.at + 2)) (omega arith) c.requires.3))
