use Prim.Native.Nat.{◌≤◌}
use Rattle.list_check.specs.CheckSteps.{rows_few}
use borrow.Author.Rules.{rules}
use Rattle.list_check.proofs.List.test_count.Goals as goal

pub test_held-requires : goal.test_held-requires
test_held-requires c = let g = c.args in let o = g.self.now in let few : g.k ≤ 6 = search rules in let r = c.rows_of-rows.ensures in
    rw r.2 (few, rows_few g.k few o.o.now.concepts.now g.ds.now _ r.0)

pub returns : goal.returns
returns c = rw (← c.rows_of-rows.ensures.2) c.test_held.ensures
