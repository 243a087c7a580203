use Prim.Native.Nat.{ℕ}
use mathlib.Core.Path.{◌≡◌, ◌∙◌, sym, ap}
use native.Mathlib.Omega.{arith}
use Rattle.std.specs.Prelude.{Some}
use Rattle.list_form.specs.ListForm.{node_in}
use Rattle.list_form.specs.declared.Node.TheVariants.{Split}
use Rattle.list_form.specs.FormSteps.{tree_off, tree_leaf, tree_deep, tree_first, tree_second, split_room}
use Rattle.list_form.proofs.+tree_end.Goals.{In-Split}
use Rattle.list_form.proofs.+tree_end.Goals as goal

pub returns-in_err-end : goal.returns-in_err-end
returns-in_err-end t c = let p = c.args in
    rw c.from_residual.ensures (tree_off p.ds.now p.limits p.at p.left c.in_err-end.ensures.0)

-- a split stands there
here : (t : ℕ) (c : In-Split t) → Some Split ≡ node_in c.args.ds.now c.args.limits c.args.at
here t c = sym (ap Some c.in-Split.is) ∙ c.in_ok-end.ensures.0

pub returns-then-left-eq0 : goal.returns-then-left-eq0
returns-then-left-eq0 t c = let p = c.args in tree_deep p.ds.now p.limits p.at p.left (omega arith) (here t (goal.at.returns-then-left-eq0 t c).In-Split)

pub overflow_add-at : goal.overflow_add-at
overflow_add-at t c = let p = c.args in let r = split_room p.ds.now p.limits p.at (here t (goal.at.overflow_add-at t c).In-Split) in omega arith

pub returns-in_err-next-in-Split : goal.returns-in_err-next-in-Split
returns-in_err-next-in-Split t c = let p = c.args in rw c.from_residual-in_err-next-in-Split.ensures
    (tree_first p.ds.now p.limits p.at p.left (here t (goal.at.returns-in_err-next-in-Split t c).In-Split) (λ e. omega arith) c.in_err-next-in-Split.ensures)

pub returns-in-Leaf : goal.returns-in-Leaf
returns-in-Leaf t c = let p = c.args in
    tree_leaf p.ds.now p.limits p.at p.left _ (sym (ap Some c.in-Leaf.is) ∙ c.in_ok-end.ensures.0)

pub returns-in_ok-next-in-Split : goal.returns-in_ok-next-in-Split
returns-in_ok-next-in-Split t c = let p = c.args in
    tree_second p.ds.now p.limits p.at p.left c.in_ok-next-in-Split.next _ (here t (goal.at.returns-in_ok-next-in-Split t c).In-Split) (λ e. omega arith)
    c.in_ok-next-in-Split.ensures c.tree_end-in-Split.ensures
