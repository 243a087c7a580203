use mathlib.Core.Path.{sym, ◌∙◌}
use mathlib.Core.Bool.{true, false}
use Rattle.labels.specs.Labels.{value_of}
use Prim.Native.Nat.{◌≤◌}
use Rattle.rows.specs.HeldRows.{rows_held}
use Rattle.evidence.specs.Evidence.{label_of}
use Rattle.list_check.specs.CheckSteps.{count_18, count_19, count_fine, cells_few}
use borrow.Author.Rules.{rules}
use Rattle.list_check.proofs.List.test_held.Goals as goal

pub returns-then-not-cells_ok : goal.returns-then-not-cells_ok
returns-then-not-cells_ok c = let g = c.args in let o = g.self.now in let few : g.rows.now.count ≤ 6 = search rules in
    rw c.at.ensures (count_18 o.s.layout.marks o.o.now.masks o.o.now.concepts.now (label_of o.s.layout o.s.bytes.now) g.i (value_of g.x) g.ds.now g.rows.now.count
    (rows_held g.rows.now.held g.rows.now.count) (search rules)
    (cells_few g.rows.now.count few o.s.layout.marks o.o.now.masks o.o.now.concepts.now (label_of o.s.layout o.s.bytes.now) (value_of g.x) g.rows.now.held
    g.ds.now false (sym c.cells_ok.ensures ∙ c.if-not-cells_ok.true)))

pub returns-then-not-tree_closes : goal.returns-then-not-tree_closes
returns-then-not-tree_closes c = let g = c.args in let o = g.self.now in let few : g.rows.now.count ≤ 6 = search rules in
    rw c.at-then-not-tree_closes.ensures (count_19 o.s.layout.marks o.o.now.masks o.o.now.concepts.now (label_of o.s.layout o.s.bytes.now) g.i (value_of g.x) g.ds.now g.rows.now.count
    (rows_held g.rows.now.held g.rows.now.count) (search rules)
    (cells_few g.rows.now.count few o.s.layout.marks o.o.now.masks o.o.now.concepts.now (label_of o.s.layout o.s.bytes.now) (value_of g.x) g.rows.now.held
    g.ds.now true (sym c.cells_ok.ensures ∙ c.if-not-cells_ok.false))
    (sym c.tree_closes.ensures ∙ c.if-not-tree_closes.true))

pub returns : goal.returns
returns c = let g = c.args in let o = g.self.now in let few : g.rows.now.count ≤ 6 = search rules in
    count_fine o.s.layout.marks o.o.now.masks o.o.now.concepts.now (label_of o.s.layout o.s.bytes.now) g.i (value_of g.x) g.ds.now g.rows.now.count
    (rows_held g.rows.now.held g.rows.now.count) (search rules)
    (cells_few g.rows.now.count few o.s.layout.marks o.o.now.masks o.o.now.concepts.now (label_of o.s.layout o.s.bytes.now) (value_of g.x) g.rows.now.held
    g.ds.now true (sym c.cells_ok.ensures ∙ c.if-not-cells_ok.false))
    (sym c.tree_closes.ensures ∙ c.if-not-tree_closes.false)
