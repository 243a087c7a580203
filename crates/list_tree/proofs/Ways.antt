-- A way with a limit put behind it, or in the place of that one, as the code makes it.
use Rattle.std.specs.Prelude.{ℕ, ◌<◌, ◌≡◌, List, length, set}
use Rattle.counting.specs.Trees as Counting
use Rattle.list_leaf.specs.declared.Limit.{Limit}
use Rattle.list_tree.specs.TreeSteps.{meant, PutBehind}
use Rattle.list_tree.specs.HeldLaws.{put_behind, put_again}

module _ (way next : List Limit) (n : ℕ) (x : Limit) (e : next ≡ set way n x) (few : n < 14) (s : length way ≡ 14) where
  pub put_first : (l : Counting.Limit) → meant x ≡ l → PutBehind way n l next
  put_first l m = rw e (put_behind way n x l few s m)

  pub put_second : (y : Limit) (l : Counting.Limit) → meant y ≡ l → PutBehind way n l (set next n y)
  put_second y l m = rw e (put_again way n x y l few s m)
