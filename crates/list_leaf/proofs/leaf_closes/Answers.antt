use Rattle.list_leaf.specs.Leaf.{few_enough}
use Rattle.std.proofs.Common.{◌≡◌, refl, true, false}
use lib.ListN.{length}
use lib.Dec.{leb}
use Rattle.logic.specs.Tests.{and_l, and_r, so_leb}
use Rattle.list_leaf.proofs.leaf_closes.Goals as goal

pub returns-then-not-few : goal.returns-then-not-few
returns-then-not-few c = let a = c.args in let e : few_enough a.k (length a.ms.now) ≡ false = c.if-not-few.true in rw e refl

pub leaf_test-requires : goal.leaf_test-requires
leaf_test-requires c = let a = c.args in let f = c.if-not-few.false in let n = length a.ms.now in let g = and_r (leb a.k 6) _ f in
    (so_leb a.k 6 (and_l (leb a.k 6) _ f), so_leb a.k n (and_l (leb a.k n) _ g), so_leb n 14 (and_r (leb a.k n) _ g))

pub returns : goal.returns
returns c = let a = c.args in let e : few_enough a.k (length a.ms.now) ≡ true = c.if-not-few.false in rw e c.leaf_test.ensures
