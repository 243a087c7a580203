use Prim.Native.Nat.{ℕ, ◌+◌, ◌-◌, ◌^◌}
use mathlib.Core.Path.{◌≡◌, ◌∙◌, sym, ap}
use mathlib.Core.Bool.{Bool, false≢true}
use native.Mathlib.Omega.{arith}
use lib.Pow.{pow_pos}
use borrow.Author.Rules.{rules}
use Rattle.logic.specs.Bounded.{all_elim, all_intro, all_more}
use Rattle.parts.specs.Numbers.{up_to}
use Rattle.labels.specs.Labels.{value_of}
use Rattle.evidence.specs.Evidence.{label_of}
use Rattle.rows.specs.HeldRows.{rows_held}
use Rattle.cell_walk.proofs.WalkLaws.{count_start, few_changes, all_next, tally_as, walk_start}
use Rattle.list_cells.specs.CellSteps.{cell_fine}
use Rattle.list_cells.specs.CellAnswers.{gathered_on, no_cell, cell_at_lem}
use Rattle.list_cells.proofs.CellGathered.{cell_told, six_few}
use Rattle.list_cells.proofs.CellTest.walk_cells.Goals as goal
use Rattle.list_cells.proofs.CellTest.walk_cells.Goals.{After-shown_of-shown, After-cell_ok}

-- the test of the cells by the arrays that are filled before the loop
abbrev test : After-shown_of-shown → ℕ → Bool
test c = let g = c.args in let o = g.self.now in
    gathered_on o.s.layout.marks o.m.now (label_of o.s.layout o.s.bytes.now) c.above_of-above.result
    c.own_of-own.result c.shown_of-shown.result c.against_of-against.result g.ds.now c.up_to-n.result

-- is the one by the rows
told : (c : After-shown_of-shown) (m : ℕ) → let g = c.args in let o = g.self.now in
    test c m ≡ cell_fine o.s.layout.marks o.cs.now o.m.now (label_of o.s.layout o.s.bytes.now) (value_of o.x)
    (rows_held g.rows.now.held (up_to 6 g.rows.now.count)) g.ds.now (up_to 6 g.rows.now.count) m
told c j = let g = c.args in let o = g.self.now in let n = c.up_to-n in let b = c.above_of-above in
    let m = g.rows.now.count in let e = n.ensures.0 in
    cell_told o.m.now g.rows.now.held n.result n.ensures.1 _ (six_few m _ _ e b.ensures.0) o.cs.now (value_of o.x) _ _ _
    (six_few m _ _ e (c.shown_of-shown.ensures b.ensures.0)) (six_few m _ _ e c.against_of-against.ensures)
    (six_few m _ _ e c.own_of-own.ensures) b.ensures.1
    o.s.layout.marks (label_of o.s.layout o.s.bytes.now) g.ds.now _ n.ensures.0 j

here : (c : After-cell_ok) → let g = c.args in let o = g.self.now in c.cell_ok.result
    ≡ gathered_on o.s.layout.marks o.m.now (label_of o.s.layout o.s.bytes.now) c.above_of-above.result
    c.own_of-own.result c.shown_of-shown.result c.against_of-against.result g.ds.now c.up_to-n.result c.loop-c.c
here c = let g = c.args in let o = g.self.now in let z : c.loop-c.c - 1 + 1 ≡ c.loop-c.c = omega (arith, c.loop-c.auto.c) in
    cell_at_lem o.s.layout.marks o.m.now (label_of o.s.layout o.s.bytes.now) c.above_of-above.result
    c.own_of-own.result c.shown_of-shown.result c.against_of-against.result g.ds.now c.up_to-n.result
    c.loop-c.c _ c.cell_roles.result _ c.loop-c.auto.c c.byte-cell.ensures (search rules)
    (rw z at (c.cell_roles.ensures.roles _ _ (c.next_cell-changes.ensures.roles c.loop-c.invariant.2))) c.cell_ok.ensures

pub loop-c-init : goal.loop-c-init
loop-c-init c = let g = c.args in let o = g.self.now in (
  no_cell o.s.layout.marks o.m.now (label_of o.s.layout o.s.bytes.now) c.above_of-above.result
      c.own_of-own.result c.shown_of-shown.result c.against_of-against.result g.ds.now c.up_to-n.result,
  count_start,
  walk_start c.above_of-above.result,
)

-- the number of cells
end_is : (c : After-shown_of-shown) → c.cell_count-end.result ≡ 2 ^ c.up_to-n.result
end_is c = c.cell_count-end.ensures.0 ∙ ap (λ m. 2 ^ m) (sym c.up_to-n.ensures.0)

pub overflow_add-changes : goal.overflow_add-changes
overflow_add-changes c =
    let few = few_changes (c.loop-c.c - 1) _ _ (omega (arith, c.cell_count-end.ensures.1)) c.loop-c.invariant.1
    c.next_cell-changes.ensures.count in omega arith

pub returns-then-not-cell_ok : goal.returns-then-not-cell_ok
returns-then-not-cell_ok c = let v = c.loop-c.invariant in let s = (goal.at.returns-then-not-cell_ok c).After-shown_of-shown in
    let t = test s in let e = c.ended_at.ensures in let j = c.loop-c.c in
    let z : j - 1 + 1 ≡ j = omega (arith, c.loop-c.auto.c) in
    tally_as (rw (e.0, e.1) (record {
      count = ap (λ n. n + c.next_cell-changes.result) v.1 ∙ (rw z at c.next_cell-changes.ensures.count);
      before = v.0;
      here = all_next t j _ v.0 (sym c.if-not-cell_ok.true ∙ here (goal.at.returns-then-not-cell_ok c).After-cell_ok);
      inside = omega (arith, end_is s);
      whole = λ u. absurd (false≢true u);
    })) _ _ c.up_to-n.ensures.0 (told s)

pub loop-c-preserved : goal.loop-c-preserved
loop-c-preserved c = let v = c.loop-c.invariant in let j = c.loop-c.c in
    let z : j - 1 + 1 ≡ j = omega (arith, c.loop-c.auto.c) in let y : j + 1 - 1 ≡ j = omega arith in (
      all_more (test (goal.at.loop-c-preserved c).After-shown_of-shown) j v.0
          (sym (here (goal.at.loop-c-preserved c).After-cell_ok) ∙ c.if-not-cell_ok.false),
      rw y (ap (λ n. n + c.next_cell-changes.result) v.1 ∙ (rw z at c.next_cell-changes.ensures.count)),
      rw y (rw z at (c.next_cell-changes.ensures.roles v.2)),
    )

pub returns : goal.returns
returns c = let v = c.loop-c.invariant in let s = (goal.at.returns c).After-shown_of-shown in let t = test s in
    let e = c.ended_at-2.ensures in let j = c.loop-c.c in let p = pow_pos c.up_to-n.result in
    let last : c.cell_count-end.result ≡ j = omega (arith, c.loop-c.auto.c, c.loop-c.auto.c-end, end_is s, p) in
    let z : j - 1 + 1 ≡ j = omega (arith, c.loop-c.auto.c) in
    tally_as (rw (e.0, e.1, last) (record {
      count = v.1;
      before = all_intro (j - 1) t (λ i h. all_elim j t v.0 i (omega arith));
      here = rw z (sym v.0);
      inside = omega (arith, end_is s, c.loop-c.auto.c);
      whole = λ _. omega (arith, end_is s, c.loop-c.auto.c);
    })) _ _ c.up_to-n.ensures.0 (told s)
