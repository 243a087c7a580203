use mathlib.Core.Path.{subst, sym}
use Prim.Native.Nat.{◌<◌, ◌≤◌}
use native.Mathlib.Omega.{arith}
use borrow.Author.Rules.{rules}
use Rattle.std.proofs.Math.Decide.{dec_lt}
use Rattle.rows.specs.HeldRows.{given}
use Rattle.cell_labels.proofs.OfRows.{six_of}
use Rattle.cell_labels.specs.CellRows.{above_of}
use Rattle.cell_labels.proofs.above_of.Goals as goal

pub returns : goal.returns
returns c = let g = c.args in let w = c.of_rows.ensures in (
  six_of g.rows.now.held g.rows.now.count (λ R. above_of g.m.now (given R)) c.of_rows.result w.0
      (λ i l. let e = w.1 0 i l in (λ h. search rules, λ h. e.1 h)),
  λ i l. let e = w.1 0 i l in elim (dec_lt i g.rows.now.count) [
    | yes h ↦ (let p = e.0 h in search rules)
    | no h ↦ (let q : g.rows.now.count ≤ i = omega arith in subst (λ n. n < 65536) (sym (e.1 q)) (omega arith))
  ],
)
