use mathlib.Core.Path.{◌≡◌, ◌∙◌, refl}
use mathlib.Core.Bool.{cond}
use lib.Dec.{ltb}
use Prim.Native.Nat.{ℕ, ◌≤◌, ◌<◌}
use lib.ListN.{get_or}
use native.Mathlib.Omega.{arith}
use borrow.Author.Rules.{rules}
use borrow.Author.Tests.{lt-ltb}
use Rattle.parts.specs.Numbers.{up_to}
use Rattle.rows.specs.HeldRows.{no_row, row_in}
use Rattle.rows.proofs.HeldRows.{rows_held_lem, none_held, behind}
use Rattle.rows.proofs.Made.{made_at}
use Rattle.rows.proofs.rows_of.Goals as goal

pub returns : goal.returns
returns c = let g = c.args in
    let made : (i : ℕ) → i < 6 → get_or c.from_fn.result i no_row ≡ cond (ltb i (up_to 6 g.k)) (row_in g.cs.now g.ds.now i) no_row =
    made_at _ no_row (λ i b q e. search rules) c.from_fn.result 6 c.from_fn.ensures.items in
    let few : up_to 6 g.k ≤ 6 = omega (arith, c.up_to.ensures.0, c.up_to.ensures.1) in (
      rows_held_lem g.cs.now g.ds.now _ _ few (λ i l. made i (omega arith) ∙ (rw (lt-ltb i (up_to 6 g.k) l) refl)),
      λ i l. none_held _ i (behind (λ i. row_in g.cs.now g.ds.now i) (up_to 6 g.k) _ c.from_fn.ensures.items.long made i l),
      refl,
    )
