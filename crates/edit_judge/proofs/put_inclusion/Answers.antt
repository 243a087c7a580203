use Prim.Native.Nat.{◌+◌, ◌*◌, ◌%◌}
use mathlib.Core.Path.{◌∙◌, ap}
use lib.ListN.{drop}
use Rattle.laying.specs.Laying.{laid_fits}
use Rattle.edit_state.specs.PlaceLaws.{laid_beyond}
use Rattle.edit_state.specs.EditLaws.{short_edits, done_edits}
use Rattle.edit_judge.specs.Judging.{allowed}
use Rattle.edit_judge.specs.InclusionLaws.{inclusion_put}
use Rattle.edit_state.specs.Lent.{roles_from, state_bytes}
use native.Mathlib.Omega.{arith}
use Rattle.edit_judge.proofs.put_inclusion.Goals.{Start}
use Rattle.std.proofs.Common.{rules}
use Rattle.edit_judge.proofs.put_inclusion.Goals as goal

pub returns-in_err-enough : goal.returns-in_err-enough
returns-in_err-enough c = let h = c.in_err-enough.ensures.short in short_edits _ _ _ (search rules) h.1

pub returns : goal.returns
returns c = let w =
    (goal.at.returns c).Start in
    done_edits _ w.args.st.now _ (omega (arith, c.in_ok-enough.ensures.whole)) (λ T rest l. let a = allowed _ w.args.st.now c.in_ok-judge_inclusion.ensures T rest l in (
      a,
      c.lay_parent.ensures ∙ inclusion_put w.args.st.now w.args.r.0
          w.args.p.0 T rest l a,
    )) (ap (drop state_bytes) (c.lay_parent.ensures ∙ laid_fits _ _ _ (omega (arith, c.in_ok-enough.ensures.whole))) ∙ laid_beyond w.args.st.now (roles_from + 3 *
    (w.args.r.0 % 16))
    _ (omega (arith, c.in_ok-enough.ensures.whole)) (omega (arith, c.in_ok-enough.ensures.whole)))
