use Prim.Native.Nat.{◌*◌, ◌%◌}
use mathlib.Core.Path.{◌∙◌, ap}
use native.Mathlib.Omega.{arith}
use lib.ListN.{length, take, drop}
use Rattle.roles.specs.Records.{role_table}
use Rattle.laying.specs.Laying.{laid_fits}
use Rattle.edit_lay.specs.Lays.{with_parent}
use Rattle.edit_judge.proofs.records_with.Goals.{Start}
use Rattle.edit_judge.proofs.records_with.Goals as goal

pub returns : goal.returns
returns c = let w =
    (goal.at.returns c).Start in
    c.role_table.ensures ∙ ap role_table (c.span.ensures ∙ ap (λ b. take (length w.args.rs.now) (drop 0 b))
    (c.lay_parent.ensures ∙ ap (λ b. with_parent b (3 * (w.args.r.0 % 16)) (w.args.p.0 % 16)) (c.copy_bytes.ensures
    ∙ laid_fits _ 0 w.args.rs.now (omega arith))))
